use Rattle.std.proofs.Common.{arith, ap}
use Rattle.ranges.proofs.SizeLaws.{accepted_sizes}
use Rattle.renaming.specs.declared.Core.{Core}
use Rattle.events.specs.Play.{setup_in}
use Rattle.bench.proofs.FigureLaws.{rate_small}
use Rattle.bench.proofs.replaying.figures.Goals as goal

pub begin-requires-clause-few : goal.begin-requires-clause-few
begin-requires-clause-few c =
    let a = c.args in
    let s = setup_in a.program.now a.«data».now a.schedule.now in
    let z = accepted_sizes s c.requires.accepted in
    omega (arith, z.window_to, ap (λ (m : Core). m.setup.window) c.requires.fresh)

pub overflow_cast-result : goal.overflow_cast-result
overflow_cast-result c =
    let a = c.args in
    omega (arith, c.rate.ensures, rate_small a.program.now a.«data».now a.schedule.now _ _ _ c.play-counts.ensures)
