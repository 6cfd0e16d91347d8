use Rattle.std.proofs.Common.{sym}
use Rattle.bench.proofs.RefusalLaws.{size_right}
use Rattle.bench.proofs.replaying.replay.Goals as goal

pub lay-requires : goal.lay-requires
lay-requires c =
    let a = c.args in
    size_right a.program.now a.«data».now a.schedule.now _ (sym c.in_ok-setup.ensures.number)
