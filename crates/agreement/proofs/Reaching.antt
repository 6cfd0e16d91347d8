-- Every list of calls on a fresh machine reaches a world that agrees with the in-order run, and none of its numbers is out of range.
use Prim.Native.Nat.{ℕ, ◌≤◌}
use mathlib.Core.Path.{◌≡◌, refl, sym, ap, subst, ◌∙◌}
use mathlib.Core.Bool.{true}
use mathlib.Core.List.{List}
use native.Mathlib.Nat.{zero-add}
use native.Mathlib.Omega.{arith}
use lib.ListN.{length}
use Rattle.reference.specs.Step.{State}
use Rattle.execution.specs.declared.Stop.{Stop}
use Rattle.ranges.specs.declared.Setup.{Setup}
use Rattle.renaming.specs.Range.{machine_in_range}
use Rattle.renaming.specs.Call.{lent_refusal}
use Rattle.renaming.specs.declared.Core.{Core}
use Rattle.ranges.proofs.SizeLaws.{accepted_in_range, accepted_sizes}
use Rattle.window.specs.Calls.{World}
use Rattle.agreement.specs.Lists.{Event, make_all, accepted_commits, Accepted, started, origin}
use Rattle.agreement.specs.Unrefused.{Unrefused}
use Rattle.agreement.proofs.View.{view_of}
use Rattle.agreement.proofs.Start.{start}
use Rattle.agreement.proofs.Kept.{kept_fresh}
use Rattle.agreement.proofs.Accepts.{none_lent}
use Rattle.agreement.proofs.InRange.{in_range}
use Rattle.agreement.proofs.Runs.{run_none}
use Rattle.agreement.proofs.Safe.{Safe, alive, dead, Reached, all_reached}
use Rattle.agreement.proofs.Ranged.{alive_range, emptied_range, step_cause}

-- the machine of an accepted set-up
pub started_reached : (s : Setup) (program memory : List ℕ) → Accepted s program memory → Reached program (origin memory) 0 (started s memory)
started_reached s program memory accepted =
    record {
      fit = record {
        kept = kept_fresh s (accepted_sizes s accepted.set_up).window_to;
        setup = accepted_in_range s accepted.set_up;
        sized = accepted.program_length;
        bytes = accepted.data_length;
      };
      safe = alive (origin memory) (run_none program (origin memory)) refl refl refl (start s accepted.set_up program memory);
    }

pub list_reached : (s : Setup) (program memory : List ℕ) → Accepted s program memory → (events : List Event)
    → let begin : World = started s memory in
    Reached program (origin memory) (accepted_commits program events begin) (make_all program events begin)
list_reached s program memory accepted events =
    let begin : World = started s memory in
    let commits : ℕ = accepted_commits program events begin in
    subst (λ (x : ℕ). Reached program (origin memory) x (make_all program events begin)) (zero-add commits)
    (all_reached program (origin memory) events 0 begin (started_reached s program memory accepted))

-- refusal 5 does not apply, to a machine that runs or that halted
pub reached_range : (program : List ℕ) (begin : State) (n : ℕ) (w : World) → Reached program begin n w → machine_in_range w.core ≡ true
reached_range program begin n w r = at r.safe
  where
    at : Safe program begin n w → machine_in_range w.core ≡ true
    at (alive s run halt memory zeros inv) =
        let f = r.fit in
        let m : Core = w.core in
        let cause : m.halt.cause ≡ 0 = ap (λ (x : Stop). x.cause) halt in
        in_range m f.kept (alive_range program s (view_of m) inv (ap length (sym memory) ∙ f.bytes) f.setup (omega arith))
    at (dead s k l run halt memory zeros why empty) =
        let f = r.fit in
        let m : Core = w.core in
        in_range m f.kept (emptied_range s (view_of m) empty f.setup (subst (λ (x : Stop). x.cause ≤ 7) why (step_cause program s)))

-- nor 6, with the list's own program and data lent
pub reached_lent : (program : List ℕ) (begin : State) (n : ℕ) (w : World) → Reached program begin n w → lent_refusal w.core program w.memory ≡ 0
reached_lent program begin n w r = none_lent w.core program w.memory (reached_range program begin n w r) r.fit.sized r.fit.bytes

pub unrefused : Unrefused
unrefused s program memory accepted events =
    let begin : World = started s memory in
    reached_range program (origin memory) (accepted_commits program events begin) (make_all program events begin) (list_reached s program memory accepted events)
