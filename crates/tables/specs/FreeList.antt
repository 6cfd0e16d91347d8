-- "Each pool is a chain: a head, and for each free number the next; zero ends it."
use Rattle.std.specs.Prelude.{ℕ, ◌+◌, ◌≤◌, List, [], ◌∷◌, ◌≡◌, eqb}
use Rattle.isa.specs.Reads.{choose}
use Rattle.tables.specs.Table.{look_up, store_under}
use Rattle.tables.specs.declared.FreeList.{FreeList}

-- "Taking takes the head (zero from an empty pool, which stays)": the head and the links afterwards. The link of a number outside its pool is zero.
abbrev pub taken_head : List ℕ → ℕ → ℕ
taken_head link head = look_up link head

abbrev pub taken_link : List ℕ → ℕ → List ℕ
taken_link link head = store_under link head 0

-- "freeing puts at the head"; "freeing zero … does nothing"
abbrev pub freed_head : ℕ → ℕ → ℕ
freed_head head n = choose (eqb n 0) head n

abbrev pub freed_link : List ℕ → ℕ → ℕ → List ℕ
freed_link link head n = store_under link n head

-- the pool after a number is taken, and after one is freed
abbrev pub taken : FreeList → FreeList
taken pool = record { head = taken_head pool.link pool.head; link = taken_link pool.link pool.head }

abbrev pub freed : ℕ → FreeList → FreeList
freed n pool = record { head = freed_head pool.head n; link = freed_link pool.link pool.head n }

-- the chain from the head on is this list of numbers
unfoldable pub Spells : List ℕ → ℕ → List ℕ → Type 0
Spells link head [] = head ≡ 0
Spells link head (n ∷ numbers) = (head ≡ n) × (n ≡ 0 → ⊥) × Spells link (look_up link n) numbers

-- how often a number stands in a list
unfoldable pub occurrences : ℕ → List ℕ → ℕ
occurrences k [] = 0
occurrences k (n ∷ numbers) = choose (eqb n k) 1 0 + occurrences k numbers

-- a pool of these numbers, each once; "The link of a number outside its pool is zero."
pub record Pool (link : List ℕ) (head : ℕ) (numbers : List ℕ) : Type 0 where
  pub spells : Spells link head numbers
  pub once : (k : ℕ) → occurrences k numbers ≤ 1
  pub outside : (k : ℕ) → occurrences k numbers ≡ 0 → look_up link k ≡ 0
