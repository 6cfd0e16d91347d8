-- Taking a register from the pool for a name, and freeing a name's register.
use Prim.Native.Nat.{ℕ, zero, suc, ◌+◌, ◌≤◌, ◌<◌}
use mathlib.Core.Path.{◌≡◌, refl, ap, sym, ◌∙◌}
use mathlib.Core.Logic.{◌≢◌}
use mathlib.Core.List.{List, [], ◌∷◌}
use native.Mathlib.Omega.{arith}
use native.Mathlib.Decide.{dec_le}
use lib.ListN.{length, get_or, set, length-set}
use lib.Seq.{get_or-set_other, set-get_or}
use Rattle.tables.specs.FreeList.{occurrences}
use Rattle.agreement.proofs.View.{put_head, put_link}
use Rattle.agreement.proofs.Pools.{RegisterPool}
use Rattle.agreement.proofs.Counting.{same, same_refl, same_not, count_set, count_is, count_not, spells_head, spells_none, spells_take, spells_free, outside_take, outside_free}

-- the list of a pool after one number was put back
unfoldable pub put_free : ℕ → List ℕ → List ℕ
put_free zero xs = xs
put_free (suc k) xs = suc k ∷ xs

pub register_range : (last : ℕ) (physical : List ℕ) (head : ℕ) (link xs : List ℕ) → RegisterPool last physical head link xs → (k : ℕ) → 1 ≤ occurrences k xs + occurrences k physical → k ≤ last
register_range last physical head link xs pool k h = inside (dec_le k last)
  where
    inside : Dec (k ≤ last) → k ≤ last
    inside (yes l) = l
    inside (no l) = omega (arith, pool.beyond k (omega arith))

module _ (last : ℕ) (physical : List ℕ) (head : ℕ) (link : List ℕ) (x : ℕ) (xs : List ℕ) (pool : RegisterPool last physical head link (x ∷ xs)) where
  head_facts : (head ≡ x) × (x ≢ 0) × (x ≤ last) × (occurrences x xs ≡ 0) × (occurrences x physical ≡ 0)
  unfolding occurrences same
  head_facts =
      let z : x ≢ 0 = λ e. omega (arith, pool.zero_free, ap (λ (y : ℕ). same 0 y) e, same_refl 0) in
      let r : x ≤ last = register_range last physical head link (x ∷ xs) pool x (omega (arith, same_refl x)) in
      let o : occurrences x (x ∷ xs) + occurrences x physical ≡ 1 = pool.once x (omega arith) r in
      (spells_head link head x xs pool.spells, z, r, omega (arith, o, same_refl x), omega (arith, o, same_refl x))

  -- the head is no name's register
  pub head_is : head ≡ x
  head_is = head_facts.0

  pub head_some : head ≢ 0
  head_some = rw head_is head_facts.1

  pub head_range : head ≤ last
  head_range = rw head_is head_facts.2

  pub head_new : (k : ℕ) → get_or physical k 0 ≢ head
  head_new k = rw head_is (count_not physical k x head_facts.1 head_facts.4)

  -- a name without a register takes it
  pub register_take : (j : ℕ) → j < length physical → get_or physical j 0 ≡ 0 → RegisterPool last (set physical j head) (get_or link head 0) (set link head 0) xs
  unfolding occurrences same
  register_take j h z = rw head_is (record {
    spells = rw (← head_is) (spells_take link head x xs (omega (arith, head_facts.3, same_refl x)) pool.spells);
    once = λ k a b. omega (arith, pool.once k a b, count_set k physical j x h, gone k a);
    beyond = λ k a. omega (arith, pool.beyond k a, count_set k physical j x h, gone k (omega arith));
    zero_free = omega (arith, pool.zero_free);
    zero_link = get_or-set_other link x 0 0 0 (λ e. head_facts.1 (sym e)) ∙ pool.zero_link;
    count = omega (arith, pool.count, length-set physical j x, count_set 0 physical j x h, ap (λ (y : ℕ). same 0 y) z, same_refl 0, same_not 0 x (λ e. head_facts.1 (sym e)));
    bound = pool.bound;
    room = length-set link x 0 ∙ pool.room;
    outside = outside_take link x xs pool.outside;
  })
    where
      gone : (k : ℕ) → 1 ≤ k → same k (get_or physical j 0) ≡ 0
      gone k a = ap (same k) z ∙ same_not k 0 (omega arith)

-- the register of a name goes back, if it has one
pub register_free : (last : ℕ) (physical : List ℕ) (head : ℕ) (link xs : List ℕ) (j q : ℕ) → RegisterPool last physical head link xs → j < length physical → get_or physical j 0 ≡ q
    → RegisterPool last (set physical j 0) (put_head q head) (put_link q head link) (put_free q xs)
unfolding occurrences same put_head put_link put_free
register_free last physical head link xs j zero pool h e = rw (← e) (rw (set-get_or physical j 0) pool)
register_free last physical head link xs j (suc q) pool h e =
    let one : 1 ≤ occurrences (suc q) physical = count_is physical j (suc q) e (omega arith) in
    let r : suc q ≤ last = register_range last physical head link xs pool (suc q) (omega arith) in
    let o : occurrences (suc q) xs + occurrences (suc q) physical ≡ 1 = pool.once (suc q) (omega arith) r in
    record {
      spells = spells_free link head (suc q) xs (omega arith) (omega (arith, pool.room, pool.bound)) (omega arith) pool.spells;
      once = λ k a b. omega (arith, pool.once k a b, count_set k physical j 0 h, ap (same k) e, same_not k 0 (omega arith));
      beyond = λ k a. omega (arith, pool.beyond k a, count_set k physical j 0 h, ap (same k) e, same_not k 0 (omega arith));
      zero_free = omega (arith, pool.zero_free, same_not 0 (suc q) (omega arith));
      zero_link = get_or-set_other link (suc q) 0 head 0 (omega arith) ∙ pool.zero_link;
      count = omega (arith, pool.count, length-set physical j 0, count_set 0 physical j 0 h, ap (same 0) e, same_refl 0, same_not 0 (suc q) (omega arith));
      bound = pool.bound;
      room = length-set link (suc q) head ∙ pool.room;
      outside = outside_free link (suc q) head xs pool.outside;
    }

-- freeing a number that is not 0
pub put_head_lem : (n head : ℕ) → (n ≡ 0 → ⊥) → put_head n head ≡ n
unfolding put_head
put_head_lem zero head h = absurd (h refl)
put_head_lem (suc n) head h = refl

pub put_link_lem : (n head : ℕ) (link : List ℕ) → (n ≡ 0 → ⊥) → put_link n head link ≡ set link n head
unfolding put_link
put_link_lem zero head link h = absurd (h refl)
put_link_lem (suc n) head link h = refl

-- a pool with a head has an element
pub pool_some : (last : ℕ) (physical : List ℕ) (head : ℕ) (link free : List ℕ) → RegisterPool last physical head link free → head ≢ 0
    → (x : ℕ) × (xs : List ℕ) × RegisterPool last physical head link (x ∷ xs)
pool_some last physical head link [] pool z = absurd (z (spells_none link head pool.spells))
pool_some last physical head link (x ∷ xs) pool z = (x, xs, pool)

-- without one it has none
pub pool_empty : (last : ℕ) (physical : List ℕ) (head : ℕ) (link free : List ℕ) → RegisterPool last physical head link free → head ≡ 0 → length free ≡ 0
pool_empty last physical head link [] pool e = refl
pool_empty last physical head link (x ∷ xs) pool e = absurd (head_some last physical head link x xs pool e)

-- the link of a register that a name has is zero
pub held_outside : (last : ℕ) (physical : List ℕ) (head : ℕ) (link free : List ℕ) → RegisterPool last physical head link free → (n q : ℕ) → get_or physical n 0 ≡ q → q ≢ 0 → get_or link q 0 ≡ 0
held_outside last physical head link free pool n q e z =
    let one : 1 ≤ occurrences q physical = count_is physical n q e z in
    let r : q ≤ last = register_range last physical head link free pool q (omega arith) in
    pool.outside q (omega (arith, pool.once q (omega arith) r))
