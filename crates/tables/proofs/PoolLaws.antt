-- Taking from a pool leaves the rest of its list; freeing puts one number before it.
use Prim.Native.Nat.{ℕ, ◌+◌, ◌≤◌, ◌<◌}
use mathlib.Core.Path.{◌≡◌, refl, sym, subst, ◌∙◌}
use mathlib.Core.Bool.{Bool, true, false}
use mathlib.Core.List.{List, [], ◌∷◌}
use native.Mathlib.Nat.{zero-add}
use native.Mathlib.Omega.{arith}
use borrow.Author.Tests.{eq-eqb, ne_eqb, eqb-true, eqb-false}
use lib.Dec.{eqb}
use lib.ListN.{length}
use Rattle.tables.specs.Table.{look_up, store_under}
use Rattle.tables.specs.FreeList.{taken_head, taken_link, freed_head, freed_link, Spells, occurrences, Pool}
use Rattle.tables.proofs.TableLaws.{look_other, look_same, look_cleared}

pub occurs_first : (n : ℕ) (numbers : List ℕ) → occurrences n (n ∷ numbers) ≡ 1 + occurrences n numbers
unfolding occurrences
occurs_first n numbers = rw (eq-eqb n n refl)

pub occurs_later : (k n : ℕ) (numbers : List ℕ) → (n ≡ k → ⊥) → occurrences k (n ∷ numbers) ≡ occurrences k numbers
unfolding occurrences
occurs_later k n numbers h = rw (ne_eqb n k h) (zero-add (occurrences k numbers))

-- a number that does not occur is not the first
not_there : (x n : ℕ) (numbers : List ℕ) → occurrences n (x ∷ numbers) ≡ 0 → x ≡ n → ⊥
not_there x n numbers o e =
    let f = occurs_first x numbers in
    let g : occurrences x (x ∷ numbers) ≡ 0 = subst (λ (k : ℕ). occurrences k (x ∷ numbers) ≡ 0) (sym e) o in omega arith

-- storing under a number that is not in the chain leaves the chain
kept : (numbers link : List ℕ) (head n value : ℕ) → occurrences n numbers ≡ 0 → Spells link head numbers → Spells (store_under link n value) head numbers
unfolding Spells
kept [] link head n value o s = s
kept (x ∷ numbers) link head n value o s =
    let other = not_there x n numbers o in
    (s.0, s.1, subst (λ (h : ℕ). Spells (store_under link n value) h numbers) (sym (look_other link n x value other)) (kept numbers link (look_up link x) n value (sym (occurs_later n x numbers other) ∙ o) s.2))

-- by whether two numbers are the same
pub cases : {A : Type 0} (n k : ℕ) → (n ≡ k → A) → ((n ≡ k → ⊥) → A) → A
cases {A = A} n k same other = at (eqb n k) refl
  where
    at : (b : Bool) → eqb n k ≡ b → A
    at true e = same (eqb-true n k e)
    at false e = other (eqb-false n k e)

-- take: the rest of the list
pub taken_pool : (link : List ℕ) (head n : ℕ) (numbers : List ℕ) → Pool link head (n ∷ numbers) → Pool (taken_link link head) (taken_head link head) numbers
unfolding Spells
taken_pool link head n numbers p =
    let f = occurs_first n numbers in
    let u = p.once n in
    let gone : occurrences n numbers ≡ 0 = omega arith in
    let is : head ≡ n = p.spells.0 in
    subst (λ (h : ℕ). Pool (taken_link link h) (taken_head link h) numbers) (sym is)
    (record {
      spells = kept numbers link (look_up link n) n 0 gone p.spells.2;
      once = λ k. cases n k (λ e. subst (λ (x : ℕ). occurrences x numbers ≤ 1) e (omega arith)) (λ h. subst (λ (x : ℕ). x ≤ 1) (occurs_later k n numbers h) (p.once k));
      outside = λ k o. cases n k
          (λ e. subst (λ (x : ℕ). look_up (store_under link n 0) x ≡ 0) e (look_cleared link n))
          (λ h. look_other link n k 0 (λ e. h (sym e)) ∙ p.outside k (occurs_later k n numbers h ∙ o));
    })

-- free: one number more, at the head
pub freed_pool : (link : List ℕ) (head n : ℕ) (numbers : List ℕ) → Pool link head numbers → (n ≡ 0 → ⊥) → n < length link → occurrences n numbers ≡ 0
    → Pool (freed_link link head n) (freed_head head n) (n ∷ numbers)
unfolding Spells
freed_pool link head n numbers p h l o =
    record {
      spells = (rw (ne_eqb n 0 h), h, subst (λ (x : ℕ). Spells (store_under link n head) x numbers) (sym (look_same link n head h l)) (kept numbers link head n head o p.spells));
      once = λ k. cases n k
          (λ e. subst (λ (x : ℕ). occurrences x (n ∷ numbers) ≤ 1) e (let f = occurs_first n numbers in omega arith))
          (λ g. subst (λ (x : ℕ). x ≤ 1) (sym (occurs_later k n numbers g)) (p.once k));
      outside = λ k q. cases n k
          (λ e. absurd (not_there n k numbers q e))
          (λ g. look_other link n k head (λ e. g (sym e)) ∙ p.outside k (sym (occurs_later k n numbers g) ∙ q));
    }
