-- Refusals in rising order, and what a call answers by them.
use Prim.Native.Nat.{ℕ, ◌≤◌}
use mathlib.Core.Path.{◌≡◌, refl, sym, ap, ◌∙◌}
use mathlib.Core.Bool.{Bool, true, false, not, ◌&&◌}
use mathlib.Core.List.{List, [], ◌∷◌, ◌++◌}
use borrow.Author.Tests.{eq-eqb, ne_eqb, eqb-true, eqb-false}
use lib.Dec.{leb, eqb}
use Rattle.isa.specs.Reads.{choose}
use Rattle.laws.proofs.Bools.{and_left, impossible}
use Rattle.reference.specs.Step.{when, first}
use Rattle.renaming.specs.declared.Core.{Core}
use Rattle.renaming.specs.Range.{tables_in_range, entries_in_range, machine_in_range}
use Rattle.ranges.specs.Sizes.{setup_in_range}
use Rattle.renaming.specs.Call.{lengths_differ, lent_refusal, answered, in_turn}
use Rattle.ranges.proofs.SizeLaws.{setup_sizes}

-- the first refusal applies, or the next ones are looked at
pub first_applies : (b : Bool) (n : ℕ) (rest : List ℕ) → b ≡ true → eqb n 0 ≡ false → n ≡ first (when b n ∷ rest)
unfolding first
first_applies b n rest t z = rw (t, z)

pub first_passes : (b : Bool) (n : ℕ) (rest : List ℕ) → b ≡ false → first rest ≡ first (when b n ∷ rest)
unfolding first
first_passes b n rest f = rw f

pub first_none : 0 ≡ first []
unfolding first
first_none = refl

-- what it means that none applies
pub passed : (b : Bool) (n : ℕ) (rest : List ℕ) → eqb n 0 ≡ false → first (when b n ∷ rest) ≡ 0 → (b ≡ false) × (first rest ≡ 0)
unfolding first
passed true n rest z e = impossible (sym z ∙ eq-eqb n 0 (rw z at e))
passed false n rest z e = (refl, e)

split : (a n : ℕ) (b : Bool) → eqb a 0 ≡ b → choose b n a ≡ 0 → (a ≡ 0) × (n ≡ 0)
split a n true z e = (eqb-true a 0 z, e)
split a n false z e = absurd (eqb-false a 0 z e)

pub both_none : (a : ℕ) (rest : List ℕ) → first (a ∷ rest) ≡ 0 → (a ≡ 0) × (first rest ≡ 0)
unfolding first
both_none a rest e = split a (first rest) (eqb a 0) refl e

-- the machine as it came with a refusal, or the next one with 0
module _ (m next : Core) (refusal : ℕ) where
  pub answered_refused : (number : ℕ) → number ≡ refusal → (number ≡ 0 → ⊥) → record { core = m; number = number } ≡ answered m refusal next
  answered_refused number e h = rw (e, ne_eqb refusal 0 (λ z. h (e ∙ z)))

  pub answered_next : refusal ≡ 0 → record { core = next; number = 0 } ≡ answered m refusal next
  answered_next e = rw (eq-eqb refusal 0 e)

module _ (lent own : ℕ) where
  pub lent_first : (lent ≡ 0 → ⊥) → lent ≡ in_turn lent own
  unfolding first
  lent_first h = rw (ne_eqb lent 0 h)

  pub own_next : lent ≡ 0 → own ≡ in_turn lent own
  unfolding first
  own_next e = rw (eq-eqb lent 0 e) (at (eqb own 0) refl)
    where
      at : (b : Bool) → eqb own 0 ≡ b → own ≡ choose b 0 own
      at true z = eqb-true own 0 z
      at false z = refl

-- the first of a list's refusals, then those that stand behind it
pub first_append : (leading rest : List ℕ) → first (leading ++ rest) ≡ in_turn (first leading) (first rest)
unfolding first
first_append [] rest = own_next 0 (first rest) refl
first_append (number ∷ leading) rest = at (eqb number 0) refl (first_append leading rest)
  where
    at : (b : Bool) → eqb number 0 ≡ b → first (leading ++ rest) ≡ in_turn (first leading) (first rest)
        → choose b (first (leading ++ rest)) number ≡ in_turn (choose b (first leading) number) (first rest)
    at true z e = e
    at false z e = lent_first number (first rest) (eqb-false number 0 z)

-- 5, then 6
module _ (m : Core) (program memory : List ℕ) where
  pub lent_range : machine_in_range m ≡ false → 5 ≡ lent_refusal m program memory
  unfolding lent_refusal
  lent_range e = first_applies (not (machine_in_range m)) 5 (when (lengths_differ m program memory) 6 ∷ []) (ap not e) refl

  pub lent_lengths : machine_in_range m ≡ true → lengths_differ m program memory ≡ true → 6 ≡ lent_refusal m program memory
  unfolding lent_refusal
  lent_lengths e d =
      first_applies (lengths_differ m program memory) 6 [] d refl ∙ first_passes (not (machine_in_range m)) 5 (when (lengths_differ m program memory) 6 ∷ []) (ap not e)

  pub lent_none : machine_in_range m ≡ true → lengths_differ m program memory ≡ false → 0 ≡ lent_refusal m program memory
  unfolding lent_refusal
  lent_none e d =
      first_none ∙ first_passes (lengths_differ m program memory) 6 [] d ∙ first_passes (not (machine_in_range m)) 5 (when (lengths_differ m program memory) 6 ∷ []) (ap not e)

  pub in_range_lent : lent_refusal m program memory ≡ 0 → machine_in_range m ≡ true
  unfolding lent_refusal
  in_range_lent e = at (machine_in_range m) (passed (not (machine_in_range m)) 5 (when (lengths_differ m program memory) 6 ∷ []) refl e).0
    where
      at : (b : Bool) → not b ≡ false → b ≡ true
      at true z = refl
      at false z = impossible (sym z)

-- the window of a machine in range
pub in_range_window : (m : Core) → machine_in_range m ≡ true → m.setup.window ≤ 64
unfolding machine_in_range
in_range_window m t =
    let a = setup_in_range m.setup in
    let b = leb m.count m.setup.window in
    let c = tables_in_range m in
    let d = entries_in_range m.setup m.count m.entries in
    (setup_sizes m.setup (and_left a b (and_left (a && b) c (and_left (a && b && c) d t)))).window_to
