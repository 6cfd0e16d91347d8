-- The pool of names through an entry's life, and which names have registers.
use Prim.Native.Nat.{ℕ, zero, suc, ◌+◌, ◌≤◌, ◌<◌}
use mathlib.Core.Path.{◌≡◌, ap, sym, ◌∙◌}
use mathlib.Core.Logic.{◌≢◌}
use mathlib.Core.List.{List, [], ◌∷◌, ◌++◌}
use native.Mathlib.Omega.{arith}
use native.Mathlib.Decide.{dec_le}
use lib.ListN.{length, get_or, set, length-set}
use lib.Seq.{get_or-set_other}
use Rattle.std.proofs.lemmas.List.{length_push}
use Rattle.tables.specs.FreeList.{occurrences}
use Rattle.agreement.proofs.View.{put_head, put_link}
use Rattle.agreement.proofs.Pools.{NamePool}
use Rattle.agreement.proofs.Counting.{same, same_refl, same_not, count_set, count_is, count_last, spells_head, spells_take, spells_free, outside_take, outside_free}
use Rattle.agreement.proofs.RegisterPools.{put_free}

module _ (window : ℕ) (committed names : List ℕ) (head : ℕ) (link free : List ℕ) (pool : NamePool window committed names head link free) where
  pub name_most : (k : ℕ) → 1 ≤ k → occurrences k free + occurrences k committed + occurrences k names ≤ 1
  name_most k h = inside (dec_le k (31 + window))
    where
      inside : Dec (k ≤ 31 + window) → occurrences k free + occurrences k committed + occurrences k names ≤ 1
      inside (yes l) = omega (arith, pool.once k h l)
      inside (no l) = omega (arith, pool.beyond k (omega arith))

  pub name_range : (k : ℕ) → 1 ≤ occurrences k free + occurrences k committed + occurrences k names → k ≤ 31 + window
  name_range k h = inside (dec_le k (31 + window))
    where
      inside : Dec (k ≤ 31 + window) → k ≤ 31 + window
      inside (yes l) = l
      inside (no l) = omega (arith, pool.beyond k (omega arith))

  -- an entry without a destination enters
  pub name_none : NamePool window committed (names ++ 0 ∷ []) head link free
  name_none = record {
    spells = pool.spells;
    once = λ k a b. omega (arith, pool.once k a b, count_last k 0 names, same_not k 0 (omega arith));
    beyond = λ k a. omega (arith, pool.beyond k a, count_last k 0 names, same_not k 0 (omega arith));
    zero_free = pool.zero_free;
    zero_link = pool.zero_link;
    zero_name = pool.zero_name;
    count = omega (arith, pool.count, count_last 0 0 names, same_refl 0, length_push names 0);
    bound = pool.bound;
    room = pool.room;
    outside = pool.outside;
  }

module _ (window : ℕ) (committed names : List ℕ) (head : ℕ) (link : List ℕ) (y : ℕ) (free : List ℕ) (pool : NamePool window committed names head link (y ∷ free)) where
  -- the head is new
  pub fresh_is : head ≡ y
  fresh_is = spells_head link head y free pool.spells

  pub fresh_some : y ≢ 0
  unfolding occurrences same
  fresh_some e = omega (arith, pool.zero_free, ap (λ (x : ℕ). same 0 x) e, same_refl 0)

  pub fresh_range : y ≤ 31 + window
  unfolding occurrences same
  fresh_range = name_range window committed names head link (y ∷ free) pool y (omega (arith, same_refl y))

  pub fresh_once : (occurrences y free ≡ 0) × (occurrences y committed ≡ 0) × (occurrences y names ≡ 0)
  unfolding occurrences same
  fresh_once =
      let z : y ≢ 0 = fresh_some in
      let o : occurrences y (y ∷ free) + occurrences y committed + occurrences y names ≤ 1 = name_most window committed names head link (y ∷ free) pool y (omega arith) in
      omega (arith, o, same_refl y)

  -- an entry with a destination enters
  pub name_take : NamePool window committed (names ++ y ∷ []) (get_or link head 0) (set link head 0) free
  unfolding occurrences same
  name_take =
      let z : y ≢ 0 = fresh_some in
      rw fresh_is (record {
        spells = rw (← fresh_is) (spells_take link head y free (omega (arith, fresh_once.0, same_refl y)) pool.spells);
        once = λ k a b. omega (arith, pool.once k a b, count_last k y names);
        beyond = λ k a. omega (arith, pool.beyond k a, count_last k y names);
        zero_free = omega (arith, pool.zero_free);
        zero_link = get_or-set_other link y 0 0 0 (λ e. z (sym e)) ∙ pool.zero_link;
        zero_name = pool.zero_name;
        count = omega (arith, pool.count, count_last 0 y names, same_not 0 y (λ e. z (sym e)), length_push names y);
        bound = pool.bound;
        room = length-set link y 0 ∙ pool.room;
        outside = outside_take link y free pool.outside;
      })

-- the youngest entry is dropped: its name is free
pub name_drop : (window : ℕ) (committed names : List ℕ) (head : ℕ) (link free : List ℕ) (n : ℕ) → NamePool window committed (names ++ n ∷ []) head link free
    → NamePool window committed names (put_head n head) (put_link n head link) (put_free n free)
unfolding occurrences same put_head put_link put_free
name_drop window committed names head link free zero pool = record {
  spells = pool.spells;
  once = λ k a b. omega (arith, pool.once k a b, count_last k 0 names, same_not k 0 (omega arith));
  beyond = λ k a. omega (arith, pool.beyond k a, count_last k 0 names, same_not k 0 (omega arith));
  zero_free = pool.zero_free;
  zero_link = pool.zero_link;
  zero_name = pool.zero_name;
  count = omega (arith, pool.count, count_last 0 0 names, same_refl 0, length_push names 0);
  bound = pool.bound;
  room = pool.room;
  outside = pool.outside;
}
name_drop window committed names head link free (suc n) pool =
    let o : occurrences (suc n) free + occurrences (suc n) committed + occurrences (suc n) (names ++ suc n ∷ []) ≤ 1 = name_most window committed (names ++ suc n ∷ []) head link free pool (suc n) (omega arith) in
    let r : suc n ≤ 31 + window = name_range window committed (names ++ suc n ∷ []) head link free pool (suc n) (omega (arith, count_last (suc n) (suc n) names, same_refl (suc n))) in
    record {
      spells = spells_free link head (suc n) free (omega arith) (omega (arith, pool.room, pool.bound)) (omega (arith, count_last (suc n) (suc n) names, same_refl (suc n))) pool.spells;
      once = λ k a b. omega (arith, pool.once k a b, count_last k (suc n) names);
      beyond = λ k a. omega (arith, pool.beyond k a, count_last k (suc n) names);
      zero_free = omega (arith, pool.zero_free, same_not 0 (suc n) (omega arith));
      zero_link = get_or-set_other link (suc n) 0 head 0 (omega arith) ∙ pool.zero_link;
      zero_name = pool.zero_name;
      count = omega (arith, pool.count, count_last 0 (suc n) names, same_not 0 (suc n) (omega arith), length_push names (suc n));
      bound = pool.bound;
      room = length-set link (suc n) head ∙ pool.room;
      outside = outside_free link (suc n) head free pool.outside;
    }

-- the oldest entry leaves: its name is committed, the previous one is free
pub name_commit : (window : ℕ) (committed names : List ℕ) (head : ℕ) (link free : List ℕ) (n d k : ℕ) → NamePool window committed (n ∷ names) head link free → d < length committed → d ≢ 0 → n ≢ 0
    → get_or committed d 0 ≡ suc k → NamePool window (set committed d n) names (suc k) (set link (suc k) head) (suc k ∷ free)
unfolding occurrences same
name_commit window committed names head link free n d k pool h dz nz e =
    let i : 1 ≤ occurrences (suc k) committed = count_is committed d (suc k) e (omega arith) in
    let o : occurrences (suc k) free + occurrences (suc k) committed + occurrences (suc k) (n ∷ names) ≤ 1 = name_most window committed (n ∷ names) head link free pool (suc k) (omega arith) in
    let r : suc k ≤ 31 + window = name_range window committed (n ∷ names) head link free pool (suc k) (omega arith) in
    record {
      spells = spells_free link head (suc k) free (omega arith) (omega (arith, pool.room, pool.bound)) (omega arith) pool.spells;
      once = λ j a b. omega (arith, pool.once j a b, count_set j committed d n h, ap (same j) e);
      beyond = λ j a. omega (arith, pool.beyond j a, count_set j committed d n h, ap (same j) e);
      zero_free = omega (arith, pool.zero_free, same_not 0 (suc k) (omega arith));
      zero_link = get_or-set_other link (suc k) 0 head 0 (omega arith) ∙ pool.zero_link;
      zero_name = get_or-set_other committed d 0 n 0 (λ q. dz (sym q)) ∙ pool.zero_name;
      count = omega (arith, pool.count, same_not 0 n (λ q. nz (sym q)));
      bound = pool.bound;
      room = length-set link (suc k) head ∙ pool.room;
      outside = outside_free link (suc k) head free pool.outside;
    }

-- the same without a destination
pub name_commit_none : (window : ℕ) (committed names : List ℕ) (head : ℕ) (link free : List ℕ) → NamePool window committed (0 ∷ names) head link free → NamePool window committed names head link free
unfolding occurrences same
name_commit_none window committed names head link free pool = record {
  spells = pool.spells;
  once = λ k a b. omega (arith, pool.once k a b, same_not k 0 (omega arith));
  beyond = λ k a. omega (arith, pool.beyond k a, same_not k 0 (omega arith));
  zero_free = pool.zero_free;
  zero_link = pool.zero_link;
  zero_name = pool.zero_name;
  count = omega (arith, pool.count, same_refl 0);
  bound = pool.bound;
  room = pool.room;
  outside = pool.outside;
}
