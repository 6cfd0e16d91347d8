-- A rule of a table, proved at all of its entries by one test that the checker computes.
use mathlib.Core.Path.{◌≡◌, ◌∙◌, subst, sym}
use mathlib.Core.Bool.{Bool, true, false, not, ◌&&◌, ◌||◌}
use mathlib.Core.List.{List, [], ◌∷◌}
use Prim.Native.Nat.{ℕ, zero, suc, ◌+◌, ◌<◌, ◌≤◌}
use native.Mathlib.Nat.{add-zero, zero-add, add-suc, suc-add, le_of_suc-le-suc, not-suc-le-zero}
use borrow.Author.Tests.{eqb-true, le-leb, lt-ltb}
use lib.Dec.{T, leb, ltb, eqb}
use lib.ListN.{length, get_or}
use Rattle.laws.proofs.Bools.{both, implied, true_of}

-- the second test is made only where the first holds, so that the checker computes one entry after the other
abbrev pub then : Bool → Bool → Bool
then true b = b
then false b = false

then_left : (a b : Bool) → T (then a b) → T a
then_left true b t = tt
then_left false b t = t

then_right : (a b : Bool) → T (then a b) → T b
then_right true b t = t
then_right false b t = absurd t

-- the test passes at each entry of the table and its index, counted from i
abbrev pub every : (ℕ → ℕ → Bool) → ℕ → List ℕ → Bool
every test i [] = true
every test i (x ∷ xs) = then (test i x) (every test (suc i) xs)

from : (test : ℕ → ℕ → Bool) (xs : List ℕ) (i : ℕ) → T (every test i xs) → (k : ℕ) → k < length xs → T (test (i + k) (get_or xs k 0))
from test [] i t k h = absurd (not-suc-le-zero h)
from test (x ∷ xs) i t zero h = subst (λ (m : ℕ). T (test m x)) (sym (add-zero i)) (then_left (test i x) (every test (suc i) xs) t)
from test (x ∷ xs) i t (suc k) h =
    subst (λ (m : ℕ). T (test m (get_or xs k 0))) (suc-add i k ∙ sym (add-suc i k))
    (from test xs (suc i) (then_right (test i x) (every test (suc i) xs) t) k (le_of_suc-le-suc h))

pub at : (test : ℕ → ℕ → Bool) (xs : List ℕ) → T (every test 0 xs) → (k : ℕ) → k < length xs → T (test k (get_or xs k 0))
at test xs t k h = subst (λ (m : ℕ). T (test m (get_or xs k 0))) (zero-add k) (from test xs 0 t k h)

-- from one index to before another the table's entries are a function of the index
abbrev pub follows : ℕ → ℕ → (ℕ → ℕ) → ℕ → ℕ → Bool
follows low end f i x = not (leb low i && ltb i end) || eqb (f i) x

pub between : (xs : List ℕ) (low end : ℕ) (f : ℕ → ℕ) → T (every (follows low end f) 0 xs) → {k : ℕ} → k < length xs → low ≤ k → k < end → f k ≡ get_or xs k 0
between xs low end f t {k} h l u =
    eqb-true (f k) (get_or xs k 0)
    (implied (leb low k && ltb k end) (eqb (f k) (get_or xs k 0)) (both (le-leb low k l) (lt-ltb k end u))
    (true_of (follows low end f k (get_or xs k 0)) (at (follows low end f) xs t k h)))

-- a rule of all entries and of the default holds at every index
abbrev pub all : {A : Type 0} → (A → Bool) → List A → Bool
all test [] = true
all test (x ∷ xs) = then (test x) (all test xs)

pub anywhere : {A : Type 0} (test : A → Bool) (xs : List A) (d : A) → T (all test xs) → T (test d) → (k : ℕ) → T (test (get_or xs k d))
anywhere test [] d t e k = e
anywhere test (x ∷ xs) d t e zero = then_left (test x) (all test xs) t
anywhere test (x ∷ xs) d t e (suc k) = anywhere test xs d (then_right (test x) (all test xs) t) e k
