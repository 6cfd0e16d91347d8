-- How often a number stands in a list, and what that says of the chain of a pool.
use Prim.Native.Nat.{ℕ, zero, suc, ◌+◌, ◌≤◌, ◌<◌}
use mathlib.Core.Path.{◌≡◌, refl, ap, sym, subst, ◌∙◌}
use mathlib.Core.Logic.{◌≢◌}
use mathlib.Core.List.{List, [], ◌∷◌, ◌++◌}
use native.Mathlib.Omega.{arith}
use native.Mathlib.Decide.{dec_lt}
use lib.Dec.{eqb}
use lib.ListN.{length, get_or, set, get_or-eq_default}
use lib.Seq.{get_or-set_other, get_or-set_same}
use Rattle.isa.specs.Reads.{choose}
use Rattle.tables.specs.Table.{look_under}
use Rattle.tables.specs.FreeList.{Spells, occurrences}
use Rattle.tables.proofs.TableLaws.{look_within}
use Rattle.agreement.proofs.Tests.{equal, apart, eq?}

-- 1 where two numbers are the same, else 0
unfoldable pub same : ℕ → ℕ → ℕ
same k n = choose (eqb n k) 1 0

pub data Same? (k n : ℕ) : Type 0 where
  alike : k ≡ n → same k n ≡ 1 → Same? k n
  other : k ≢ n → same k n ≡ 0 → Same? k n

pub same? : (k n : ℕ) → Same? k n
unfolding same
same? k n = elim (eq? n k) [ equal e t ↦ alike (sym e) (rw t) | apart e t ↦ other (λ q. e (sym q)) (rw t) ]

pub same_refl : (k : ℕ) → same k k ≡ 1
same_refl k = elim (same? k k) [ alike e s ↦ s | other n s ↦ absurd (n refl) ]

pub same_not : (k n : ℕ) → k ≢ n → same k n ≡ 0
same_not k n h = elim (same? k n) [ alike e s ↦ absurd (h e) | other d s ↦ s ]

pub count_none : (k : ℕ) → occurrences k [] ≡ 0
unfolding occurrences
count_none k = refl

pub count_append : (k : ℕ) (xs ys : List ℕ) → occurrences k (xs ++ ys) ≡ occurrences k xs + occurrences k ys
unfolding occurrences same
count_append k [] ys = omega arith
count_append k (x ∷ xs) ys = omega (arith, count_append k xs ys)

pub count_set : (k : ℕ) (xs : List ℕ) (i v : ℕ) → i < length xs → occurrences k (set xs i v) + same k (get_or xs i 0) ≡ occurrences k xs + same k v
unfolding occurrences same
count_set k [] i v h = omega arith
count_set k (x ∷ xs) zero v h = omega arith
count_set k (x ∷ xs) (suc i) v h = omega (arith, count_set k xs i v (omega arith))

pub count_at : (xs : List ℕ) (i : ℕ) → i < length xs → 1 ≤ occurrences (get_or xs i 0) xs
unfolding occurrences same
count_at [] i h = omega arith
count_at (x ∷ xs) zero h = omega (arith, same_refl x)
count_at (x ∷ xs) (suc i) h = omega (arith, count_at xs i (omega arith))

-- of a number that occurs at most once, the place is known
pub count_once : (xs : List ℕ) (i j : ℕ) → i < length xs → j < length xs → get_or xs i 0 ≡ get_or xs j 0 → occurrences (get_or xs i 0) xs ≤ 1 → i ≡ j
unfolding occurrences same
count_once [] i j h k e o = omega arith
count_once (x ∷ xs) zero zero h k e o = refl
count_once (x ∷ xs) zero (suc j) h k e o =
    let one : 1 ≤ occurrences x xs = rw e (count_at xs j (omega arith)) in omega (arith, same_refl x)
count_once (x ∷ xs) (suc i) zero h k e o =
    let one : 1 ≤ occurrences x xs = rw (← e) (count_at xs i (omega arith)) in
    let two : occurrences x (x ∷ xs) ≤ 1 = subst (λ y. occurrences y (x ∷ xs) ≤ 1) e o in omega (arith, same_refl x)
count_once (x ∷ xs) (suc i) (suc j) h k e o = ap suc (count_once xs i j (omega arith) (omega arith) e (omega arith))

-- a number that stands somewhere occurs
pub count_is : (xs : List ℕ) (i k : ℕ) → get_or xs i 0 ≡ k → k ≢ 0 → 1 ≤ occurrences k xs
count_is xs i k e z = inside (dec_lt i (length xs))
  where
    inside : Dec (i < length xs) → 1 ≤ occurrences k xs
    inside (yes l) = rw (← e) (count_at xs i l)
    inside (no l) = absurd (z (sym e ∙ get_or-eq_default xs 0 (omega arith)))

pub count_not : (xs : List ℕ) (i k : ℕ) → k ≢ 0 → occurrences k xs ≡ 0 → get_or xs i 0 ≢ k
count_not xs i k z o e = omega (arith, count_is xs i k e z)

pub clear_same : (xs : List ℕ) (n : ℕ) → get_or (set xs n 0) n 0 ≡ 0
clear_same [] n = refl
clear_same (x ∷ xs) zero = refl
clear_same (x ∷ xs) (suc n) = clear_same xs n

-- the chain of a pool
look_set_other : (link : List ℕ) (k v n : ℕ) → n ≢ k → look_under 0 (set link k v) n ≡ look_under 0 link n
unfolding look_under
look_set_other link k v n h = ap (λ (x : ℕ). choose (eqb n 0) 0 x) (get_or-set_other link k n v 0 h)

pub spells_head : (link : List ℕ) (head n : ℕ) (ns : List ℕ) → Spells link head (n ∷ ns) → head ≡ n
unfolding Spells
spells_head link head n ns s = s.0

pub spells_none : (link : List ℕ) (head : ℕ) → Spells link head [] → head ≡ 0
unfolding Spells
spells_none link head s = s

-- it spells one list
pub spells_one : (link : List ℕ) (head : ℕ) (xs ys : List ℕ) → Spells link head xs → Spells link head ys → xs ≡ ys
unfolding Spells
spells_one link head [] [] s t = refl
spells_one link head [] (y ∷ ys) s t = absurd (t.1 (sym t.0 ∙ s))
spells_one link head (x ∷ xs) [] s t = absurd (s.1 (sym s.0 ∙ t))
spells_one link head (x ∷ xs) (y ∷ ys) s t =
    let e : x ≡ y = sym s.0 ∙ t.0 in
    ap (λ (n : ℕ). n ∷ xs) e
    ∙ ap (λ (rest : List ℕ). y ∷ rest) (spells_one link (look_under 0 link y) xs ys (subst (λ (n : ℕ). Spells link (look_under 0 link n) xs) e s.2) t.2)

pub spells_other : (link : List ℕ) (k v head : ℕ) (ns : List ℕ) → occurrences k ns ≡ 0 → Spells link head ns → Spells (set link k v) head ns
unfolding Spells occurrences same
spells_other link k v head [] o s = s
spells_other link k v head (n ∷ ns) o s = elim (same? k n) [
  | alike e t ↦ absurd (omega arith)
  | other d t ↦ (s.0, s.1, rw (look_set_other link k v n (λ q. d (sym q))) (spells_other link k v (look_under 0 link n) ns (omega arith) s.2))
]

pub spells_take : (link : List ℕ) (head n : ℕ) (ns : List ℕ) → occurrences n (n ∷ ns) ≤ 1 → Spells link head (n ∷ ns) → Spells (set link head 0) (get_or link head 0) ns
unfolding Spells occurrences same
spells_take link head n ns o s =
    rw (s.0, look_within link n s.1) (spells_other link n 0 (look_under 0 link n) ns (omega (arith, same_refl n)) s.2)

pub spells_free : (link : List ℕ) (head k : ℕ) (ns : List ℕ) → k ≢ 0 → k < length link → occurrences k ns ≡ 0 → Spells link head ns → Spells (set link k head) k (k ∷ ns)
unfolding Spells
spells_free link head k ns z l o s =
    (refl, z, rw (← look_within (set link k head) k z, get_or-set_same link k head 0 l) (spells_other link k head head ns o s))

-- the link of a number outside stays zero
pub outside_take : (link : List ℕ) (n : ℕ) (ns : List ℕ) → ((k : ℕ) → occurrences k (n ∷ ns) ≡ 0 → get_or link k 0 ≡ 0) → (k : ℕ) → occurrences k ns ≡ 0 → get_or (set link n 0) k 0 ≡ 0
unfolding occurrences same
outside_take link n ns f k o = elim (same? k n) [
  | alike e s ↦ rw e (clear_same link n)
  | other d s ↦ get_or-set_other link n k 0 0 d ∙ f k (omega arith)
]

pub outside_free : (link : List ℕ) (q head : ℕ) (ns : List ℕ) → ((k : ℕ) → occurrences k ns ≡ 0 → get_or link k 0 ≡ 0) → (k : ℕ) → occurrences k (q ∷ ns) ≡ 0 → get_or (set link q head) k 0 ≡ 0
unfolding occurrences same
outside_free link q head ns f k o = elim (same? k q) [
  | alike e s ↦ absurd (omega arith)
  | other d s ↦ get_or-set_other link q k head 0 d ∙ f k (omega arith)
]

pub count_last : (k n : ℕ) (ns : List ℕ) → occurrences k (ns ++ n ∷ []) ≡ occurrences k ns + same k n
unfolding occurrences same
count_last k n ns = omega (arith, count_append k ns (n ∷ []))
