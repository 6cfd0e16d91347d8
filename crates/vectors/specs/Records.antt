-- Bytes of a record.
use Rattle.std.specs.Prelude.{ℕ, ◌+◌, ◌-◌, ◌*◌, ◌≤◌, ◌<◌, ◌≡◌, List, get_or}

-- four bytes, the lowest first
abbrev pub joined : ℕ → ℕ → ℕ → ℕ → ℕ
joined a b c d = a + b * 256 + c * 65536 + d * 16777216

-- the word from an index on; bytes past the end count as 0
abbrev pub word_at : List ℕ → ℕ → ℕ
word_at bytes at = joined (get_or bytes at 0) (get_or bytes (at + 1) 0) (get_or bytes (at + 2) 0) (get_or bytes (at + 3) 0)

-- the byte at k where bytes stand from a place on, and zeros elsewhere
abbrev pub Laid : List ℕ → ℕ → ℕ → ℕ → Type 0
Laid bytes place k byte = (k < place → byte ≡ 0) × (place ≤ k → byte ≡ get_or bytes (k - place) 0)
