-- What the pool of names tells: which names differ.
use Prim.Native.Nat.{ℕ, zero, suc, ◌+◌, ◌≤◌, ◌<◌}
use mathlib.Core.Path.{◌≡◌, refl, sym, ◌∙◌}
use mathlib.Core.Logic.{◌≢◌}
use mathlib.Core.List.{List, map}
use native.Mathlib.Omega.{arith}
use lib.ListN.{length, get_or, length-map, get_or-map}
use Rattle.tables.specs.FreeList.{occurrences}
use Rattle.tables.specs.Entry.{empty_entry}
use Rattle.tables.specs.declared.Entry.{Entry}
use Rattle.std.specs.List.{All}
use Rattle.std.proofs.lemmas.List.Elements.{All-from_get_or}
use Rattle.agreement.proofs.Pools.{name_of, NamePool}
use Rattle.agreement.proofs.Counting.{count_is, count_once}
use Rattle.agreement.proofs.NamePools.{name_most, name_range}

pub count_name : (es : List Entry) (i k : ℕ) → (get_or es i empty_entry).name ≡ k → k ≢ 0 → 1 ≤ occurrences k (map name_of es)
count_name es i k e z = count_is (map name_of es) i k (get_or-map name_of es i empty_entry ∙ e) z

pub no_name : (es : List Entry) (k : ℕ) → k ≢ 0 → occurrences k (map name_of es) ≡ 0 → All (λ e. e.name ≢ k) es
no_name es k z o = All-from_get_or (λ e. e.name ≢ k) es empty_entry (λ i h e. omega (arith, count_name es i k e z))

module _ (window : ℕ) (committed : List ℕ) (es : List Entry) (head : ℕ) (link free : List ℕ) (pool : NamePool window committed (map name_of es) head link free) where
  pub entry_range : (i : ℕ) → (get_or es i empty_entry).name ≤ 31 + window
  entry_range i = inside (get_or es i empty_entry).name refl
    where
      inside : (k : ℕ) → (get_or es i empty_entry).name ≡ k → k ≤ 31 + window
      inside zero e = omega arith
      inside (suc k) e = name_range window committed (map name_of es) head link free pool (suc k) (omega (arith, count_name es i (suc k) e (omega arith)))

  pub unique_name : (i j : ℕ) → i < length es → j < length es → (get_or es i empty_entry).name ≢ 0 → (get_or es j empty_entry).name ≡ (get_or es i empty_entry).name → j ≡ i
  unique_name i j h l z e =
      let k : ℕ = (get_or es i empty_entry).name in
      let a : get_or (map name_of es) j 0 ≡ k = get_or-map name_of es j empty_entry ∙ e in
      let b : get_or (map name_of es) i 0 ≡ k = get_or-map name_of es i empty_entry in
      let o : occurrences k (map name_of es) ≤ 1 = omega (arith, name_most window committed (map name_of es) head link free pool k (omega arith)) in
      count_once (map name_of es) j i (rw length-map l) (rw length-map h) (a ∙ sym b) (rw a o)

  -- the name of an entry is not committed
  pub not_committed : (i k : ℕ) → (get_or es i empty_entry).name ≡ k → k ≢ 0 → (r : ℕ) → get_or committed r 0 ≢ k
  not_committed i k e z r q = omega (arith, name_most window committed (map name_of es) head link free pool k (omega arith), count_name es i k e z, count_is committed r k q z)
