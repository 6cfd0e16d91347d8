-- How many marks are not set: a walk that sets one at each record ends before they run out.
use Prim.Native.Nat.{ℕ, zero, suc, ◌<◌}
use mathlib.Core.Path.{◌≡◌, refl, sym, ap}
use mathlib.Core.Bool.{Bool, true, false}
use mathlib.Core.List.{List, [], ◌∷◌}
use native.Mathlib.Nat.{le_of_suc-le-suc, not-suc-le-zero}
use native.Mathlib.Omega.{arith}
use lib.ListN.{length, get_or, set, replicate}
use Rattle.laws.proofs.Bools.{impossible}

unfoldable pub unset : List Bool → ℕ
unset [] = 0
unset (true ∷ marks) = unset marks
unset (false ∷ marks) = suc (unset marks)

pub unset_set : (marks : List Bool) (i : ℕ) → i < length marks → get_or marks i false ≡ false → suc (unset (set marks i true)) ≡ unset marks
unfolding unset
unset_set [] i h e = absurd (not-suc-le-zero h)
unset_set (true ∷ marks) zero h e = impossible (sym e)
unset_set (false ∷ marks) zero h e = refl
unset_set (true ∷ marks) (suc i) h e = unset_set marks i (le_of_suc-le-suc h) e
unset_set (false ∷ marks) (suc i) h e = ap suc (unset_set marks i (le_of_suc-le-suc h) e)

pub unset_some : (marks : List Bool) (i : ℕ) → i < length marks → get_or marks i false ≡ false → 0 < unset marks
unset_some marks i h e = let s = unset_set marks i h e in omega arith

pub unset_all : (n : ℕ) → unset (replicate n false) ≡ n
unfolding unset
unset_all zero = refl
unset_all (suc n) = ap suc (unset_all n)
