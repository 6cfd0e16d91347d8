-- An operation by nine bits of its word: bit 30, bits 14–12 and bits 6–2 (document 02, wish 2). The formula of the code's table, over the
-- listing.
use Rattle.std.specs.Prelude.{ℕ, zero, suc, ◌+◌, ◌*◌, ◌/◌, ◌%◌, ◌^◌, Bool, eqb}
use Rattle.word.specs.Field.{field}
use Rattle.isa.specs.Listing.{last, format_of, fixed_of}
use Rattle.isa.specs.Reads.{choose, fixed_part}

-- the nine bits as a number, bit 30 the highest
abbrev pub index_of : ℕ → ℕ
index_of w = field w 30 1 * 256 + field w 12 3 * 32 + field w 2 5

-- the nine bits at their places in a word, with zeros elsewhere
abbrev pub bits_of : ℕ → ℕ
bits_of index = index / 256 * 2 ^ 30 + index / 32 % 8 * 2 ^ 12 + index % 32 * 2 ^ 2

-- an operation's fixed bits agree: of the nine, those that its format fixes are as it has them
unfoldable pub agrees : ℕ → ℕ → Bool
agrees operation index = eqb (index_of (fixed_part (format_of operation) (bits_of index))) (index_of (fixed_of operation))

-- the first operation of n, from this one on, whose fixed bits agree; "zero where no operation's fixed bits agree"
unfoldable pub entry_from : ℕ → ℕ → ℕ → ℕ
entry_from zero operation index = 0
entry_from (suc n) operation index = choose (agrees operation index) operation (entry_from n (operation + 1) index)

-- "ECALL and EBREAK share an entry": 38, the first of them
unfoldable pub entry_of : ℕ → ℕ
entry_of index = entry_from last 1 index
