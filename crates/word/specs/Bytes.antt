-- Numbers in little-endian bytes, over the size.
use Rattle.std.specs.Prelude.{ℕ, zero, suc, ◌+◌, ◌*◌, ◌/◌, ◌%◌, List, slice_index, slice_set}

-- the number in size bytes from at on
unfoldable pub number : (ℕ → ℕ) → ℕ → ℕ → ℕ
number byte at zero = 0
number byte at (suc size) = byte at + number byte (at + 1) size * 256

abbrev pub byte_of : List ℕ → ℕ → ℕ
byte_of bytes at = slice_index bytes at

-- the bytes with the lowest size bytes of a value from at on
unfoldable pub put : List ℕ → ℕ → ℕ → ℕ → List ℕ
put bytes at zero value = bytes
put bytes at (suc size) value = put (slice_set bytes at (value % 256)) (at + 1) size (value / 256)
