use Rattle.std.proofs.Common.{ap}
use Rattle.renaming.specs.Setters.{with_entries}
use Rattle.renaming.proofs.ChangeLaws.{change_none, change_turn}
use Rattle.renaming.proofs.Core.change_all.Goals as goal

pub loop-k-init : goal.loop-k-init
loop-k-init g c = ap (λ entries. with_entries entries c.args.self.now) (change_none (g.C.Change.becomes c.args.change.now) c.args.self.now.entries)

pub loop-k-preserved : goal.loop-k-preserved
loop-k-preserved g c =
    let l = c.loop-k in
    change_turn c.args.self.now l.self (g.C.Change.becomes c.args.change.now) l.k c.apply.new.e l.invariant c.apply.ensures
