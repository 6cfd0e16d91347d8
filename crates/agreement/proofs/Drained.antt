-- Drain on a machine reached from a fresh one: no call is refused.
use Prim.Native.Nat.{ℕ, zero, suc, ◌+◌, ◌*◌}
use mathlib.Core.Path.{◌≡◌, refl, sym, ap, ◌∙◌}
use mathlib.Core.Bool.{false}
use mathlib.Core.List.{List}
use lib.Dec.{eqb}
use Rattle.isa.specs.Reads.{choose}
use Rattle.reference.specs.Step.{State}
use Rattle.renaming.specs.Call.{lent_refusal}
use Rattle.renaming.specs.Changes.{entry_at}
use Rattle.window.specs.Drain.{Drain, idle, drain_ends, drain_from, drain_of}
use Rattle.renaming.specs.declared.Core.{Core}
use Rattle.window.specs.Calls.{World, Made, make, needed_of}
use Rattle.window.specs.declared.Call.{Call}
use Rattle.agreement.specs.Lists.{own, make_event, make_all, accepted_commit, accepted_commits, started, origin, needed, CommitsWithin}
use Rattle.agreement.specs.Drained.{Drained}
use Rattle.isa.proofs.ChoiceLaws.{by_choice}
use Rattle.agreement.proofs.Safe.{Reached, make_reached}
use Rattle.agreement.proofs.Reaching.{list_reached, reached_lent}
use Rattle.agreement.proofs.Onward.{needed_some, commits_within}
use Rattle.agreement.proofs.DrainSteps.{busy}
use Rattle.agreement.proofs.Draining.{of_calls, of_ends}
use Rattle.agreement.proofs.Leading.{of_leads, of_number, of_refuses, of_rests}

within_first : (n : ℕ) (program : List ℕ) (w : World) → CommitsWithin (suc n) program w → (make program (needed w.core) w).number ≡ 0
unfolding CommitsWithin
within_first n program w c = c.0

-- on a machine reached from a fresh one it is accepted, and what it leaves is reached too
module _ (program : List ℕ) (begin : State) (k : ℕ) (w : World) (r : Reached program begin k w) where
  abbrev m : Core
  m = w.core

  abbrev made : Made
  made = make program (needed_of m) w

  needed_accepted : idle m ≡ false → made.number ≡ 0
  needed_accepted e =
      let a = busy m e in
      ap (λ (c : Call). (make program c w).number) (sym (needed_some m (entry_at m 0).state a)) ∙ within_first 3 program w (commits_within program begin k w r a.runs)

  needed_reached : (j : ℕ) × Reached program begin j made.world
  unfolding make_event
  needed_reached = (k + accepted_commit (own (needed_of m)) made.number, make_reached program begin k (own (needed_of m)) w r)

from_unrefused : (n : ℕ) (program : List ℕ) (begin : State) (k : ℕ) (w : World) → Reached program begin k w → (calls : ℕ) → (drain_from n program w calls).number ≡ 0
unfolding drain_from
from_unrefused zero program begin k w r calls = refl
from_unrefused (suc n) program begin k w r calls =
    let made : Made = make program (needed_of w.core) w in
    let more : Drain = drain_from n program made.world (suc calls) in
    let over : Drain = drain_ends made.world calls made.number in
    let next = needed_reached program begin k w r in
    by_choice (λ (d : Drain). d.number ≡ 0) (idle w.core) (drain_ends w calls 0) (choose (eqb made.number 0) more over) (λ e. refl) (λ e.
    by_choice (λ (d : Drain). d.number ≡ 0) (eqb made.number 0) more over (λ q. from_unrefused n program begin next.0 made.world next.1 (suc calls))
    (λ q. needed_accepted program begin k w r e))

of_unrefused : (program : List ℕ) (begin : State) (k : ℕ) (w : World) → Reached program begin k w → (drain_of program w).number ≡ 0
unfolding drain_of
of_unrefused program begin k w r =
    let m : Core = w.core in
    let lent : ℕ = lent_refusal m program w.memory in
    by_choice (λ (d : Drain). d.number ≡ 0) (eqb lent 0) (drain_from (3 * m.count) program w 0) (drain_ends w 0 lent)
    (λ e. from_unrefused (3 * m.count) program begin k w r 0) (λ e. reached_lent program begin k w r)

pub drained : Drained
drained =
    record {
      made = of_leads;
      number = of_number;
      refuses = of_refuses;
      rests = of_rests;
      calls = of_calls;
      ends = of_ends;
      unrefused = λ s program memory accepted events.
          let start : World = started s memory in
          of_unrefused program (origin memory) (accepted_commits program events start) (make_all program events start) (list_reached s program memory accepted events);
    }
