-- Two's complement.
use Rattle.std.specs.Prelude.{ℕ, suc, ◌+◌, ◌-◌, ℤ, pos, negsuc, nat_lt}
use Rattle.std.specs.Int.{w32}
use mir.Val.{to_z, of_z, sel}

-- a word as a signed number: itself below 2^31, from there on 2^32 less
abbrev pub signed : ℕ → ℤ
signed word = to_z w32 word

-- the word of a signed number: itself, or 2^32 more where it is negative
abbrev pub word_of : ℤ → ℕ
word_of number = of_z w32 number

-- n below 2 * half as a signed number: itself below half, from there on 2 * half less (negsuc k is −1 − k)
unfoldable pub extend : ℕ → ℕ → ℤ
extend half n = sel (nat_lt n half) (pos n) (negsuc (half + half - suc n))
