-- Refusals in order: where none applies, each test fails.
use Prim.Native.Nat.{ℕ}
use mathlib.Core.Path.{◌≡◌, refl, sym}
use mathlib.Core.Bool.{Bool, true, false, not, ◌&&◌}
use mathlib.Core.List.{List, [], ◌∷◌}
use borrow.Author.Tests.{eqb-true, eq-eqb, ne_eqb, not-false}
use lib.Dec.{eqb}
use Rattle.reference.specs.Step.{when, first}
use Rattle.laws.proofs.Bools.{impossible}
use Rattle.renaming.specs.Call.{in_turn}
use Rattle.renaming.proofs.RefusalLaws.{passed, both_none}

pub record Passed (b : Bool) (rest : List ℕ) : Type 0 where
  pub here : b ≡ false
  pub later : first rest ≡ 0

pub none_first : (b : Bool) (n : ℕ) (rest : List ℕ) → (n ≡ 0 → ⊥) → first (when b n ∷ rest) ≡ 0 → Passed b rest
none_first b n rest h e = let p = passed b n rest (ne_eqb n 0 h) e in record { here = p.0; later = p.1 }

pub first_none : (b : Bool) (n : ℕ) (rest : List ℕ) → b ≡ false → first rest ≡ 0 → first (when b n ∷ rest) ≡ 0
unfolding first
first_none true n rest h e = impossible (sym h)
first_none false n rest h e = e

pub empty_none : first [] ≡ 0
unfolding first
empty_none = refl

pub record BothPass (a b : ℕ) : Type 0 where
  pub lent : a ≡ 0
  pub own : b ≡ 0

pub in_turn_lem : (lent own : ℕ) → in_turn lent own ≡ 0 → BothPass lent own
in_turn_lem lent own e = let p = both_none lent (own ∷ []) e in record { lent = p.0; own = (both_none own [] p.1).0 }

pub in_turn_none : (lent own : ℕ) → lent ≡ 0 → own ≡ 0 → in_turn lent own ≡ 0
unfolding first
in_turn_none lent own p q = rw (eq-eqb lent 0 p, eq-eqb own 0 q)

pub in_turn_lent : (lent own : ℕ) → (lent ≡ 0 → ⊥) → in_turn lent own ≡ 0 → ⊥
in_turn_lent lent own h e = h (in_turn_lem lent own e).lent

-- tests on numbers
pub is_zero : (n : ℕ) → not (eqb n 0) ≡ false → n ≡ 0
is_zero n e = eqb-true n 0 (not-false (eqb n 0) e)

pub no_some : (n : ℕ) → n ≡ 0 → not (eqb n 0) ≡ false
no_some n e = rw (eq-eqb n 0 e)

pub and_false : (a b : Bool) → a && b ≡ false → a ≡ true → b ≡ false
and_false true b e h = e
and_false false b e h = impossible h
