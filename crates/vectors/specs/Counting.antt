-- Counts of 64 bits.
use Rattle.std.specs.Prelude.{ℕ, ◌+◌, ◌%◌, ◌^◌, List, slice_index, slice_set}

-- 0 after the greatest count
abbrev pub one_more : ℕ → ℕ
one_more n = (n + 1) % 2 ^ 64

-- the counts with one more at an index; as they were where the index is past the end
abbrev pub counted : List ℕ → ℕ → List ℕ
counted counts at = slice_set counts at (one_more (slice_index counts at))
