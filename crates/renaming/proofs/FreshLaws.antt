-- The chains of a fresh machine spell their numbers in rising order.
use Prim.Native.Nat.{ℕ, zero, suc, ◌+◌, ◌≤◌, ◌<◌}
use mathlib.Core.Path.{◌≡◌, refl, sym, subst, ◌∙◌}
use mathlib.Core.Bool.{Bool, true, false}
use mathlib.Core.List.{◌∷◌}
use mathlib.Core.Logic.{◌⊎◌, inl, inr}
use native.Mathlib.Numerals.{add-one}
use native.Mathlib.Omega.{arith}
use borrow.Author.Tests.{le-leb, lt-leb, lt-ltb, le-ltb, leb-true, leb-false}
use lib.Dec.{leb}
use lib.ListN.{length}
use Rattle.tables.specs.Table.{look_up}
use Rattle.tables.specs.FreeList.{Spells, occurrences, Pool}
use Rattle.tables.proofs.PoolLaws.{cases, occurs_first, occurs_later}
use Rattle.tables.proofs.TableLaws.{look_within, look_beyond, look_zero}
use Rattle.renaming.specs.SetUp.{rising_next, rising_link}
use Rattle.renaming.specs.Statement.{rising}
use Rattle.renaming.proofs.TabulateLaws.{tabulate_length, tabulate_at}

-- where a number stands in a rising list
occurs_below : (n from k : ℕ) → k < from → occurrences k (rising from n) ≡ 0
unfolding rising occurrences
occurs_below zero from k h = refl
occurs_below (suc n) from k h = occurs_later k from (rising (suc from) n) (λ e. omega arith) ∙ occurs_below n (suc from) k (omega arith)

occurs_once : (n from k : ℕ) → occurrences k (rising from n) ≤ 1
unfolding rising occurrences
occurs_once zero from k = omega arith
occurs_once (suc n) from k =
    cases from k
    (λ e. subst (λ (x : ℕ). occurrences x (from ∷ rising (suc from) n) ≤ 1) e (let f = occurs_first from (rising (suc from) n) in let z = occurs_below n (suc from) from (omega arith) in omega arith))
    (λ h. let f = occurs_later k from (rising (suc from) n) h in let z = occurs_once n (suc from) k in omega arith)

occurs_within : (n from k : ℕ) → from ≤ k → k < from + n → occurrences k (rising from n) ≡ 0 → ⊥
unfolding rising occurrences
occurs_within zero from k l h o = omega arith
occurs_within (suc n) from k l h o =
    cases from k
    (λ e. let f : occurrences k (k ∷ rising (suc from) n) ≡ 1 + occurrences k (rising (suc from) n) = occurs_first k (rising (suc from) n) in
    let g : occurrences k (k ∷ rising (suc from) n) ≡ 0 = subst (λ (x : ℕ). occurrences k (x ∷ rising (suc from) n) ≡ 0) e o in omega arith)
    (λ d. occurs_within n (suc from) k (omega arith) (omega arith) (sym (occurs_later k from (rising (suc from) n) d) ∙ o))

-- the link of a number
module _ (last : ℕ) (from32 : 32 ≤ last) (to95 : last ≤ 95) where
  link_length : length (rising_link last) ≡ 96
  unfolding rising_link
  link_length = tabulate_length 96 0 (rising_next last)

  link_at : (k : ℕ) → (k ≡ 0 → ⊥) → k < 96 → look_up (rising_link last) k ≡ rising_next last k
  unfolding rising_link
  link_at k h l = sym (look_within (rising_link last) k h) ∙ tabulate_at 96 k (rising_next last) l

  link_next : (k : ℕ) → 32 ≤ k → k < last → look_up (rising_link last) k ≡ suc k
  link_next k l h = link_at k (λ e. omega arith) (omega arith) ∙ rw (le-leb 32 k l, lt-ltb k last h) (add-one k)

  beyond : (k : ℕ) → last ≤ k → (k ≡ 0 → ⊥) → (b : Bool) → leb k 95 ≡ b → look_up (rising_link last) k ≡ 0
  beyond k l h true e = link_at k h (let p = leb-true k 95 e in omega arith) ∙ rw (le-leb 32 k (omega arith), le-ltb k last l)
  beyond k l h false e = sym (look_beyond (rising_link last) k h (let p = leb-false k 95 e in let q = link_length in omega arith))

  end_at : (k : ℕ) → (k < 32) ⊎ (last ≤ k) → (k ≡ 0 → ⊥) → look_up (rising_link last) k ≡ 0
  end_at k (inl l) h = link_at k h (omega arith) ∙ rw (lt-leb 32 k l)
  end_at k (inr l) h = beyond k l h (leb k 95) refl

  link_end : (k : ℕ) → (k < 32) ⊎ (last ≤ k) → look_up (rising_link last) k ≡ 0
  link_end k w = cases k 0 (λ e. sym (look_zero (rising_link last) k e)) (λ h. end_at k w h)

  spells : (n k : ℕ) → 32 ≤ k → k + n ≡ last → Spells (rising_link last) k (rising k (suc n))
  unfolding Spells rising
  spells zero k l e = (refl, (λ z. omega arith), link_end k (inr (omega arith)))
  spells (suc n) k l e =
      (refl, (λ z. omega arith), subst (λ (x : ℕ). Spells (rising_link last) x (rising (suc k) (suc n))) (sym (link_next k l (omega arith))) (spells n (suc k) (omega arith) (omega arith)))

  -- a number that is not in the list lies below 32 or above the last
  place : (n k : ℕ) → 32 + n ≡ last → occurrences k (rising 32 (suc n)) ≡ 0 → (b c : Bool) → leb 32 k ≡ b → leb k last ≡ c → (k < 32) ⊎ (last ≤ k)
  place n k e o true true p q =
      let l = leb-true 32 k p in
      let h = leb-true k last q in
      absurd (occurs_within (suc n) 32 k l (omega arith) o)
  place n k e o true false p q = inr (let h = leb-false k last q in omega arith)
  place n k e o false c p q = inl (leb-false 32 k p)

  pub rising_pool : (n : ℕ) → 32 + n ≡ last → Pool (rising_link last) 32 (rising 32 (suc n))
  rising_pool n e =
      record {
        spells = spells n 32 (omega arith) e;
        once = occurs_once (suc n) 32;
        outside = λ k o. link_end k (place n k e o (leb 32 k) (leb k last) refl refl);
      }
