-- The search for a victim and what it loses.
use Prim.Native.Nat.{ℕ, zero, suc, ◌+◌, ◌-◌, ◌≤◌, ◌<◌}
use mathlib.Core.Path.{◌≡◌, refl, sym, ap, ◌∙◌}
use mathlib.Core.Bool.{Bool, true, false}
use mathlib.Core.List.{List}
use native.Mathlib.Omega.{arith}
use borrow.Author.Tests.{eq-eqb, ne_eqb}
use lib.Dec.{eqb}
use lib.ListN.{get_or}
use Rattle.isa.specs.Reads.{choose}
use Rattle.tables.specs.Entry.{empty_entry, held}
use Rattle.tables.specs.declared.Entry.{Entry}
use Rattle.renaming.specs.declared.Core.{Core}
use Rattle.stealing.specs.Steal.{victim_among, victim_of, robbed}

-- the search for a victim
module _ (physical : List ℕ) (entries : List Entry) (position : ℕ) where
  pub victim_none : victim_among 0 physical entries position ≡ position
  unfolding victim_among
  victim_none = refl

  pub victim_here : (n : ℕ) → (held physical (get_or entries (position + suc n) empty_entry) ≡ 0 → ⊥) → victim_among (suc n) physical entries position ≡ position + suc n
  unfolding victim_among
  victim_here n h = rw (ne_eqb (held physical (get_or entries (position + suc n) empty_entry)) 0 h)

  pub victim_next : (n : ℕ) → held physical (get_or entries (position + suc n) empty_entry) ≡ 0 → victim_among (suc n) physical entries position ≡ victim_among n physical entries position
  unfolding victim_among
  victim_next n h = rw (eq-eqb (held physical (get_or entries (position + suc n) empty_entry)) 0 h)

  -- the same at an index of the search
  pub found_at : (k : ℕ) → position < k → (held physical (get_or entries k empty_entry) ≡ 0 → ⊥) → victim_among (k - position) physical entries position ≡ k
  found_at k l h =
      let n : k - position ≡ suc (k - position - 1) = omega arith in
      let at : position + suc (k - position - 1) ≡ k = omega arith in
      ap (λ (j : ℕ). victim_among j physical entries position) n ∙ victim_here (k - position - 1) (λ z. h (ap (λ (j : ℕ). held physical (get_or entries j empty_entry)) (sym at) ∙ z)) ∙ at

  pub passed_at : (k : ℕ) → position < k → held physical (get_or entries k empty_entry) ≡ 0
      → victim_among (k - position) physical entries position ≡ victim_among (k - 1 - position) physical entries position
  passed_at k l h =
      let n : k - position ≡ suc (k - 1 - position) = omega arith in
      let at : position + suc (k - 1 - position) ≡ k = omega arith in
      ap (λ (j : ℕ). victim_among j physical entries position) n ∙ victim_next (k - 1 - position) (ap (λ (j : ℕ). held physical (get_or entries j empty_entry)) at ∙ h)

  pub none_at : (k : ℕ) → k ≤ position → victim_among (k - position) physical entries position ≡ position
  none_at k l = let n : k - position ≡ 0 = omega arith in ap (λ (j : ℕ). victim_among j physical entries position) n ∙ victim_none

-- the victim is an entry
victim_most : (n : ℕ) (physical : List ℕ) (entries : List Entry) (position : ℕ) → victim_among n physical entries position ≤ position + n
unfolding victim_among
victim_most zero physical entries position = omega arith
victim_most (suc n) physical entries position = at (eqb (held physical (get_or entries (position + suc n) empty_entry)) 0) (victim_most n physical entries position)
  where
    at : (b : Bool) → victim_among n physical entries position ≤ position + n → choose b (victim_among n physical entries position) (position + suc n) ≤ position + suc n
    at true h = omega arith
    at false h = omega arith

pub victim_within : (m : Core) (position : ℕ) → position < m.count → victim_of m position < m.count
victim_within m position h = omega (arith, victim_most (m.count - suc position) m.physical m.entries position)

pub robbed_count : (victim : ℕ) (m : Core) → (robbed victim m).count ≡ m.count
unfolding robbed
robbed_count victim m = refl
