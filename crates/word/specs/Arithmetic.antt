-- Arithmetic on words. Sums wrap at 2^32; "SLT, BLT, BGE and SRA read their operands as signed".
use Rattle.std.specs.Prelude.{ℕ, ◌+◌, ◌-◌, ◌*◌, ◌/◌, ◌%◌, ◌^◌, Bool, int_lt}
use Rattle.std.specs.Int.Signed.{shr_z}
use Rattle.word.specs.Signed.{signed, word_of}

abbrev pub sum : ℕ → ℕ → ℕ
sum a b = (a + b) % 2 ^ 32

abbrev pub difference : ℕ → ℕ → ℕ
difference a b = (a + (2 ^ 32 - b)) % 2 ^ 32

abbrev pub shift_left : ℕ → ℕ → ℕ
shift_left a count = a * 2 ^ count % 2 ^ 32

abbrev pub shift_right : ℕ → ℕ → ℕ
shift_right a count = a / 2 ^ count

-- the signed number divided by 2^count and rounded down
abbrev pub shift_right_signed : ℕ → ℕ → ℕ
shift_right_signed a count = word_of (shr_z (signed a) (2 ^ count))

abbrev pub less_signed : ℕ → ℕ → Bool
less_signed a b = int_lt (signed a) (signed b)
