-- A call on entries that are there adds none, and the array of entries keeps its length.
use Prim.Native.Nat.{ℕ, zero, suc, ◌-◌, ◌≤◌}
use mathlib.Core.Path.{◌≡◌, refl, ◌∙◌}
use mathlib.Core.List.{List}
use native.Mathlib.Omega.{arith}
use lib.Dec.{eqb}
use lib.ListN.{length, set, length-set}
use Rattle.execution.specs.Execute.{Outcome}
use Rattle.tables.specs.Entry.{empty_entry, completed_entry, stopped_entry, predicted_entry, waiting_entry, wake_entry, sleep_entry}
use Rattle.tables.specs.declared.Entry.{Entry}
use Rattle.renaming.specs.Changes.{entry_at, place}
use Rattle.renaming.specs.Drop.{drop_youngest, drop_many, drop_to}
use Rattle.issuing.specs.Issue.{issued}
use Rattle.completing.specs.Complete.{outcome_at, none_free, register_for, supplied_for, learned, registered, refetched, redirected, completed}
use Rattle.stealing.specs.Steal.{victim_of, robbed}
use Rattle.renaming.specs.declared.Core.{Core}
use Rattle.renaming.proofs.ChangeLaws.{change_length}
use Rattle.isa.proofs.ChoiceLaws.{by_choice}

pub record Shrinks (a b : Core) : Type 0 where
  pub count : b.count ≤ a.count
  pub length : length b.entries ≡ length a.entries

shrinks_both : (a b c : Core) → Shrinks a b → Shrinks b c → Shrinks a c
shrinks_both a b c s t = record { count = let x = s.count in let y = t.count in omega arith; length = t.length ∙ s.length }

shrinks_same : (m : Core) → Shrinks m m
shrinks_same m = record { count = omega arith; length = refl }

shrinks_place : (i : ℕ) (e : Entry) (m : Core) → Shrinks m (place i e m)
shrinks_place i e m = record { count = omega arith; length = length-set m.entries i e }

pub shrinks_issued : (memory : List ℕ) (i : ℕ) (m : Core) → Shrinks m (issued memory i m)
unfolding issued
shrinks_issued memory i m = shrinks_place i _ m

shrinks_robbed : (v : ℕ) (m : Core) → Shrinks m (robbed v m)
unfolding robbed
shrinks_robbed v m =
    let e : Entry = waiting_entry (entry_at m v) in
    record { count = omega arith; length = change_length (sleep_entry (entry_at m v).name) m.count (set m.entries v e) ∙ length-set m.entries v e }

shrinks_learned : (i register result : ℕ) (m : Core) → Shrinks m (learned i register result m)
unfolding learned
shrinks_learned i register result m =
    let e : Entry = completed_entry result (entry_at m i) in
    record { count = omega arith; length = change_length (wake_entry (entry_at m i).name register) m.count (set m.entries i e) ∙ length-set m.entries i e }

shrinks_drop : (m : Core) → Shrinks m (drop_youngest m)
unfolding drop_youngest
shrinks_drop m = record { count = omega arith; length = length-set m.entries (m.count - 1) empty_entry }

pub shrinks_drops : (n : ℕ) (m : Core) → Shrinks m (drop_many n m)
unfolding drop_many
shrinks_drops zero m = shrinks_same m
shrinks_drops (suc n) m = shrinks_both m (drop_youngest m) (drop_many n (drop_youngest m)) (shrinks_drop m) (shrinks_drops n (drop_youngest m))

shrinks_refetched : (i next : ℕ) (m : Core) → Shrinks m (refetched i next m)
unfolding refetched
shrinks_refetched i next m = record { count = omega arith; length = length-set m.entries i (predicted_entry next (entry_at m i)) }

shrinks_redirected : (i next : ℕ) (m : Core) → Shrinks m (redirected i next m)
unfolding redirected
shrinks_redirected i next m =
    let d : Core = drop_to (suc i) m in
    by_choice (Shrinks m) (eqb next (entry_at m i).predicted) m (refetched i next d) (λ x. shrinks_same m)
    (λ x. shrinks_both m d (refetched i next d) (shrinks_drops (m.count - suc i) m) (shrinks_refetched i next d))

shrinks_registered : (i result : ℕ) (m : Core) → Shrinks m (registered i result m)
shrinks_registered i result m =
    let s : Core = supplied_for m i in
    let supplied : Shrinks m s = by_choice (Shrinks m) (none_free m) (robbed (victim_of m i) m) m (λ x. shrinks_robbed (victim_of m i) m) (λ x. shrinks_same m) in
    let e : Entry = completed_entry 0 (entry_at m i) in
    by_choice (Shrinks m) (eqb (entry_at m i).destination 0) (place i e m) (learned i (register_for m i) result s) (λ x. shrinks_place i e m)
    (λ x. shrinks_both m s (learned i (register_for m i) result s) supplied (shrinks_learned i (register_for m i) result s))

pub shrinks_completed : (i : ℕ) (m : Core) → Shrinks m (completed i m)
shrinks_completed i m =
    let o : Outcome = outcome_at m i in
    let r : Core = registered i o.result m in
    let e : Entry = stopped_entry o.stop (entry_at m i) in
    by_choice (Shrinks m) (eqb o.stop.cause 0) (redirected i o.next r) (place i e m)
    (λ x. shrinks_both m r (redirected i o.next r) (shrinks_registered i o.result m) (shrinks_redirected i o.next r)) (λ x. shrinks_place i e m)
