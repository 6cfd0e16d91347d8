use Rattle.std.proofs.Common.{◌≡◌, arith, rules}
use Rattle.formats.proofs.HeadLaws.{at_most}
use Rattle.events.specs.Counts.{no_counts}
use Rattle.events.proofs.Going.{begins, chain_ends, ends, goes_on, inside, is_lent, small_enough}
use Rattle.events.proofs.playing.play.Goals as goal

pub loop-turn-init : goal.loop-turn-init
loop-turn-init c =
    let none : c.default-counts.result ≡ no_counts = search rules in
    rw none (begins c.args.program.now c.args.«data».now c.args.schedule.now c.args.core.now _ c.requires c.first_index-index.ensures)

pub record_at-r-requires : goal.record_at-r-requires
record_at-r-requires c =
    let i = inside c.loop-turn.invariant (omega arith) c.if-index-eq0.false in omega arith

pub make_event-requires-clause-lent : goal.make_event-requires-clause-lent
make_event-requires-clause-lent c = is_lent c.loop-turn.invariant

pub make_event-requires-clause-small : goal.make_event-requires-clause-small
make_event-requires-clause-small c = small_enough c.loop-turn.invariant (at_most _ c.requires.fits)

pub loop-turn-preserved : goal.loop-turn-preserved
loop-turn-preserved c =
    goes_on c.loop-turn.invariant (omega arith) c.if-index-eq0.false _ c.record_at-r.ensures _ _ _ c.make_event.ensures

pub returns-after-loop-turn : goal.returns-after-loop-turn
returns-after-loop-turn c = ends c.loop-turn.invariant (omega arith)

pub returns-then-index-eq0 : goal.returns-then-index-eq0
returns-then-index-eq0 c = chain_ends c.loop-turn.invariant c.if-index-eq0.true
