-- Tables made of a function.
use Prim.Native.Nat.{ℕ, zero, suc, ◌+◌, ◌<◌}
use mathlib.Core.Path.{◌≡◌, refl, sym, ap, subst, ◌∙◌}
use mathlib.Core.Bool.{Bool, true, false}
use mathlib.Core.List.{List}
use native.Mathlib.Nat.{add-zero, zero-add, suc-add, add-suc, le_of_suc-le-suc, not-suc-le-zero}
use native.Mathlib.Omega.{arith}
use borrow.Author.Tests.{eqb-true, eqb-false}
use lib.Dec.{eqb}
use lib.ListN.{length, get_or, set}
use lib.Seq.{get_or-set_same, get_or-set_other}
use Rattle.renaming.specs.Core.{tabulate_from, tabulate}

pub tabulate_length : (n k : ℕ) (f : ℕ → ℕ) → length (tabulate_from k n f) ≡ n
unfolding tabulate_from
tabulate_length zero k f = refl
tabulate_length (suc n) k f = ap suc (tabulate_length n (suc k) f)

from_at : (n k i : ℕ) (f : ℕ → ℕ) → i < n → get_or (tabulate_from k n f) i 0 ≡ f (k + i)
unfolding tabulate_from
from_at zero k i f h = absurd (not-suc-le-zero h)
from_at (suc n) k zero f h = ap f (sym (add-zero k))
from_at (suc n) k (suc i) f h = from_at n (suc k) i f (le_of_suc-le-suc h) ∙ ap f (suc-add k i ∙ sym (add-suc k i))

pub tabulate_at : (n i : ℕ) (f : ℕ → ℕ) → i < n → get_or (tabulate n f) i 0 ≡ f i
tabulate_at n i f h = from_at n 0 i f h ∙ ap f (zero-add i)

-- a table filled below k, and then at k
pub filled_more : (table : List ℕ) (k : ℕ) (f : ℕ → ℕ) (value : ℕ) → k < length table → value ≡ f k → ((j : ℕ) → j < k → get_or table j 0 ≡ f j)
    → (j : ℕ) → j < k + 1 → get_or (set table k value) j 0 ≡ f j
filled_more table k f value l e below j h = at (eqb j k) refl
  where
    at : (b : Bool) → eqb j k ≡ b → get_or (set table k value) j 0 ≡ f j
    at true q = let p = eqb-true j k q in subst (λ (x : ℕ). get_or (set table k value) x 0 ≡ f x) (sym p) (get_or-set_same table k value 0 l ∙ e)
    at false q = let p = eqb-false j k q in get_or-set_other table k j value 0 p ∙ below j (omega arith)
