-- Laws of a property that every element of a list has.
use Prim.Native.Nat.{ℕ, ◌<◌}
use mathlib.Core.Path.{◌≡◌, refl, ap, subst, ◌∙◌}
use mathlib.Core.Logic.{◌≢◌}
use mathlib.Core.List.{List, [], ◌∷◌, map}
use native.Mathlib.Omega.{arith}
use lib.ListN.{length, get_or, set, length-set}
use lib.Seq.{get_or-set_other, get_or-set_same}
use Rattle.std.specs.List.{All}
use Rattle.std.proofs.lemmas.List.Elements.{All-head, All-tail, All-from_get_or}
use Rattle.tables.specs.FreeList.{occurrences}
use Rattle.tables.proofs.PoolLaws.{occurs_later}
use Rattle.agreement.proofs.Counting.{count_none, count_at}
use Rattle.agreement.proofs.Tests.{equal, apart, eq?}

module _ {A : Type 0} where
  -- one element is new, and what the others have gives them another property
  pub all_set : (q r : A → Type 0) (es : List A) (d : A) (i : ℕ) (x : A) → r x → ((j : ℕ) → j < length es → j ≢ i → q (get_or es j d) → r (get_or es j d)) → All q es → All r (set es i x)
  all_set q r es d i x y f k = All-from_get_or r (set es i x) d (λ j h. elim (eq? j i) [
    | equal e t ↦ rw (e, get_or-set_same es i x d (omega (arith, length-set es i x))) y
    | apart n t ↦ rw (get_or-set_other es i j x d n) (f j (omega (arith, length-set es i x)) n (k j d (omega (arith, length-set es i x))))
  ])

  pub map_keep : {B : Type 0} (f : A → B) (h : A → A) (es : List A) → ((e : A) → f (h e) ≡ f e) → map f (map h es) ≡ map f es
  map_keep f h [] k = refl
  map_keep f h (e ∷ es) k = cc (k e, map_keep f h es k)

-- of a list in which a number does not occur
pub all_absent : (q : ℕ → Type 0) (ns : List ℕ) (n : ℕ) → occurrences n ns ≡ 0 → (r : ℕ → Type 0) → ((k : ℕ) → k ≢ n → q k → r k) → All q ns → All r ns
all_absent q ns n o r f a = All-from_get_or r ns 0 (λ i h. f (get_or ns i 0) (λ e. omega (arith, count_at ns i h, ap (λ (x : ℕ). occurrences x ns) e)) (a i 0 h))

-- of a number that occurs in it
pub all_occurring : (q : ℕ → Type 0) (ns : List ℕ) (n : ℕ) → occurrences n ns ≢ 0 → All q ns → q n
all_occurring q [] n o a = absurd (o (count_none n))
all_occurring q (x ∷ ns) n o a = elim (eq? x n) [
  | equal e t ↦ subst q e (All-head q x ns a)
  | apart e t ↦ all_occurring q ns n (λ z. o (occurs_later n x ns e ∙ z)) (All-tail q x ns a)
]
