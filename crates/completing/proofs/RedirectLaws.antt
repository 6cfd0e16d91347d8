-- A wrong prediction: whether fetch and the predicted next address are set before the younger entries are dropped or after makes no difference.
use Prim.Native.Nat.{ℕ, zero, suc, ◌+◌, ◌-◌, ◌≤◌, ◌<◌}
use mathlib.Core.Path.{◌≡◌, refl, ap, ◌∙◌}
use mathlib.Core.Bool.{Bool, true, false}
use mathlib.Core.List.{List, [], ◌∷◌}
use native.Mathlib.Omega.{arith}
use borrow.Author.Tests.{eqb-true}
use lib.Dec.{eqb}
use lib.ListN.{set}
use lib.Seq.{get_or-set_other, set-get_or}
use Rattle.isa.specs.Reads.{choose}
use Rattle.tables.specs.Entry.{empty_entry, predicted_entry}
use Rattle.tables.specs.declared.Entry.{Entry}
use Rattle.renaming.specs.Setters.{with_fetch, with_entries}
use Rattle.renaming.specs.Changes.{entry_at, place}
use Rattle.renaming.specs.Drop.{drop_youngest, drop_many, drop_to}
use Rattle.renaming.specs.declared.Core.{Core}
use Rattle.renaming.proofs.DropLaws.{drop_count, drop_done}
use Rattle.completing.specs.Complete.{refetched, redirected}

-- two places of a list may be set in either order
set_other : {A : Type 0} (elements : List A) (i j : ℕ) (x y : A) → (i ≡ j → ⊥) → set (set elements i x) j y ≡ set (set elements j y) i x
set_other [] i j x y h = refl
set_other (z ∷ elements) zero zero x y h = absurd (h refl)
set_other (z ∷ elements) zero (suc j) x y h = refl
set_other (z ∷ elements) (suc i) zero x y h = refl
set_other (z ∷ elements) (suc i) (suc j) x y h = ap (λ (rest : List _). z ∷ rest) (set_other elements i j x y (λ e. h (ap suc e)))

pub dropped_count : (n : ℕ) (m : Core) → (drop_many n m).count ≡ m.count - n
unfolding drop_many
dropped_count zero m = omega arith
dropped_count (suc n) m = dropped_count n (drop_youngest m) ∙ ap (λ (k : ℕ). k - n) (drop_count m) ∙ omega arith

-- an entry that stays may change before or after a drop
drop_refetched : (i next : ℕ) (m : Core) → suc i < m.count → drop_youngest (refetched i next m) ≡ refetched i next (drop_youngest m)
unfolding drop_youngest refetched
drop_refetched i next m h =
    let last : ℕ = m.count - 1 in
    let mended : Entry = predicted_entry next (entry_at m i) in
    rw (get_or-set_other m.entries i last mended empty_entry (omega arith), get_or-set_other m.entries last i empty_entry empty_entry (omega arith), set_other m.entries i last mended empty_entry (omega arith))

drops_refetched : (n i next : ℕ) (m : Core) → suc i + n ≤ m.count → drop_many n (refetched i next m) ≡ refetched i next (drop_many n m)
unfolding drop_many
drops_refetched zero i next m h = refl
drops_refetched (suc n) i next m h =
    ap (drop_many n) (drop_refetched i next m (omega arith)) ∙ drops_refetched n i next (drop_youngest m) (let k = drop_count m in omega arith)

-- with the next address that an entry had predicted, nothing changes
predicted_same : (i : ℕ) (m : Core) → place i (predicted_entry (entry_at m i).predicted (entry_at m i)) m ≡ m
predicted_same i m = ap (λ (entries : List Entry). with_entries entries m) (set-get_or m.entries i empty_entry)

pub redirected_late : (i next : ℕ) (m : Core) → i < m.count
    → let predicted : ℕ = (entry_at m i).predicted in
    drop_to (choose (eqb next predicted) m.count (suc i)) (with_fetch (choose (eqb next predicted) m.fetch next) (place i (predicted_entry next (entry_at m i)) m)) ≡ redirected i next m
unfolding redirected refetched
redirected_late i next m h = at (eqb next (entry_at m i).predicted) refl
  where
    at : (b : Bool) → eqb next (entry_at m i).predicted ≡ b
        → drop_to (choose b m.count (suc i)) (with_fetch (choose b m.fetch next) (place i (predicted_entry next (entry_at m i)) m)) ≡ choose b m (refetched i next (drop_to (suc i) m))
    at true same =
        drop_done m.count (with_fetch m.fetch (place i (predicted_entry next (entry_at m i)) m)) (omega arith)
        ∙ ap (λ (x : ℕ). place i (predicted_entry x (entry_at m i)) m) (eqb-true next (entry_at m i).predicted same)
        ∙ predicted_same i m
    at false other = drops_refetched (m.count - suc i) i next m (omega arith)
