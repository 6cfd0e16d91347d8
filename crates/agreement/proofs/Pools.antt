-- The two pools by counting: how often a number stands in lists.
use Prim.Native.Nat.{ℕ, ◌+◌, ◌≤◌, ◌<◌}
use mathlib.Core.Path.{◌≡◌}
use mathlib.Core.Logic.{◌≢◌}
use mathlib.Core.List.{List, map}
use lib.ListN.{length, get_or}
use Rattle.tables.specs.FreeList.{Spells, occurrences}
use Rattle.tables.specs.declared.Entry.{Entry}
use Rattle.std.specs.List.{All}

abbrev pub name_of : Entry → ℕ
name_of e = e.name

abbrev pub register_of : List ℕ → ℕ → ℕ
register_of physical name = get_or physical name 0

-- registers 1 to last: each is free or a name's, once
pub record RegisterPool (last : ℕ) (physical : List ℕ) (head : ℕ) (link free : List ℕ) : Type 0 where
  pub spells : Spells link head free
  pub once : (k : ℕ) → 1 ≤ k → k ≤ last → occurrences k free + occurrences k physical ≡ 1
  pub beyond : (k : ℕ) → last < k → occurrences k free + occurrences k physical ≡ 0
  pub zero_free : occurrences 0 free ≡ 0
  pub zero_link : get_or link 0 0 ≡ 0
  -- the free ones and those of names are all
  pub count : length free + length physical ≡ last + occurrences 0 physical
  pub bound : last ≤ 95
  pub room : length link ≡ 96
  pub outside : (k : ℕ) → occurrences k free ≡ 0 → get_or link k 0 ≡ 0

-- names 1 to 31 + window: each is free, committed or an entry's, once; names are those of the entries
pub record NamePool (window : ℕ) (committed names : List ℕ) (head : ℕ) (link free : List ℕ) : Type 0 where
  pub spells : Spells link head free
  pub once : (k : ℕ) → 1 ≤ k → k ≤ 31 + window → occurrences k free + occurrences k committed + occurrences k names ≡ 1
  pub beyond : (k : ℕ) → 31 + window < k → occurrences k free + occurrences k committed + occurrences k names ≡ 0
  pub zero_free : occurrences 0 free ≡ 0
  pub zero_link : get_or link 0 0 ≡ 0
  pub zero_name : get_or committed 0 0 ≡ 0
  -- the free ones and those of entries with a destination are as many as the window has places
  pub count : length free + length names ≡ window + occurrences 0 names
  pub bound : window ≤ 64
  pub room : length link ≡ 96
  pub outside : (k : ℕ) → occurrences k free ≡ 0 → get_or link k 0 ≡ 0

-- which names have registers, and how many: the 31 committed ones, no free one, and those that entries hold
pub record Live (physical committed names free : List ℕ) : Type 0 where
  pub kept : (r : ℕ) → 1 ≤ r → r < 32 → get_or physical (get_or committed r 0) 0 ≢ 0
  pub unused : All (λ k. get_or physical k 0 ≡ 0) free
  pub count : length physical + occurrences 0 (map (register_of physical) names) ≡ occurrences 0 physical + 31 + length names
