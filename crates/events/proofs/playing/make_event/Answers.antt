use Rattle.std.proofs.Common.{◌≡◌, true, ap, ◌∙◌, refl}
use Rattle.refusals.proofs.Laws.{number_some}
use Rattle.renaming.specs.Range.{machine_in_range}
use Rattle.renaming.proofs.RangeLaws.{in_range_count}
use Rattle.renaming.proofs.RefusalLaws.{in_range_lent, in_range_window}
use Rattle.events.specs.Numbers.{played_by}
use Rattle.events.proofs.CountLaws.{accepting_is}
use Rattle.events.proofs.EventLaws.{event_refused, event_accepted}
use Rattle.events.proofs.playing.make_event.Goals.{Start}
use Rattle.events.proofs.playing.make_event.Goals as goal

in_range : (s : Start) → machine_in_range s.args.core.now ≡ true
in_range s = in_range_lent s.args.core.now s.args.program.now s.args.«data».now s.requires.lent

pub make_within-requires-clause-window : goal.make_within-requires-clause-window
make_within-requires-clause-window c = in_range_window _ (in_range (goal.at.make_within-requires-clause-window c).Start)

pub make_within-requires-clause-count : goal.make_within-requires-clause-count
make_within-requires-clause-count c = in_range_count _ (in_range (goal.at.make_within-requires-clause-count c).Start)

pub returns-in-Ok : goal.returns-in-Ok
returns-in-Ok c =
    let a = c.args in
    ap (played_by _ _) (c.accept.ensures ∙ accepting_is c.call_of-call.result a.core.now _ _ a.counts.now c.in-Ok.ensures.stole)
    ∙ event_accepted a.program.now a.«data».now a.core.now a.r a.counts.now c.call_of-call.result _ _ _ c.requires.lent c.call_of-call.ensures c.in-Ok.ensures.made refl

pub returns-in-Err : goal.returns-in-Err
returns-in-Err c =
    let a = c.args in
    rw c.refuse.ensures
    (event_refused a.program.now a.«data».now a.core.now a.r a.counts.now c.call_of-call.result _ _ _ c.requires.lent c.call_of-call.ensures c.in-Err.ensures.made (number_some c.in-Err.field-0))
