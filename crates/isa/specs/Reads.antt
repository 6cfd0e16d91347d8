-- What a word reads as.
use Rattle.std.specs.Prelude.{ℕ, zero, suc, ◌+◌, ◌*◌, ◌^◌, Bool, true, false, eqb, ℤ, pos, Option, Some, None}
use Rattle.word.specs.Field.{field}
use Rattle.word.specs.Signed.{extend}
use Rattle.isa.specs.Listing.{Format, R, I, S, B, U, J, Shift, Whole, last, format_of, fixed_of}
use Rattle.isa.specs.declared.Instruction.{Instruction}

abbrev pub choose : {A : Type 0} → Bool → A → A → A
choose true a b = a
choose false a b = b

-- the instruction of these five numbers
abbrev pub instruction : ℕ → ℕ → ℕ → ℕ → ℤ → Instruction
instruction operation rd rs1 rs2 constant = record { operation = operation; rd = rd; rs1 = rs1; rs2 = rs2; constant = constant }

-- "the entry keeps operation 0 with zero fields"
abbrev pub none : Instruction
none = instruction 0 0 0 0 (pos 0)

-- a reading in document 01's numbers: the cause of a stop (0 none, 1 illegal) and the instruction
pub record Numbers : Type 0 where
  pub cause : ℕ
  pub fields : Instruction

abbrev pub legal : Instruction → Numbers
legal i = record { cause = 0; fields = i }

abbrev pub illegal : Numbers
illegal = record { cause = 1; fields = none }

abbrev pub numbers_of : Option Instruction → Numbers
numbers_of (Some i) = legal i
numbers_of None = illegal

-- the word with zeros in its format's fields
unfoldable pub fixed_part : Format → ℕ → ℕ
fixed_part R w = field w 25 7 * 2 ^ 25 + field w 12 3 * 2 ^ 12 + field w 0 7
fixed_part I w = field w 12 3 * 2 ^ 12 + field w 0 7
fixed_part S w = field w 12 3 * 2 ^ 12 + field w 0 7
fixed_part B w = field w 12 3 * 2 ^ 12 + field w 0 7
fixed_part U w = field w 0 7
fixed_part J w = field w 0 7
fixed_part Shift w = field w 25 7 * 2 ^ 25 + field w 12 3 * 2 ^ 12 + field w 0 7
fixed_part Whole w = w

-- the first operation of n, from this one on, whose fixed bits the word has; 0 where there is none
unfoldable pub operation_from : ℕ → ℕ → ℕ → ℕ
operation_from zero operation w = 0
operation_from (suc n) operation w = choose (eqb (fixed_part (format_of operation) w) (fixed_of operation)) operation (operation_from n (operation + 1) w)

unfoldable pub operation_of : ℕ → ℕ
operation_of w = operation_from last 1 w

-- an operation number, or none where it is 0
abbrev pub found : ℕ → Option ℕ
found zero = None
found (suc n) = Some (suc n)

-- the immediates as the manual draws them: the constant's bits, the highest first; a shift amount and a U constant are numbers from 0
unfoldable pub constant_of : Format → ℕ → ℤ
constant_of R w = pos 0
constant_of I w = extend 0x800 (field w 20 12)
constant_of S w = extend 0x800 (field w 25 7 * 2 ^ 5 + field w 7 5)
constant_of B w = extend 0x1000 (field w 31 1 * 2 ^ 12 + field w 7 1 * 2 ^ 11 + field w 25 6 * 2 ^ 5 + field w 8 4 * 2)
constant_of U w = pos (field w 12 20)
constant_of J w = extend 0x10_0000 (field w 31 1 * 2 ^ 20 + field w 12 8 * 2 ^ 12 + field w 20 1 * 2 ^ 11 + field w 21 10 * 2)
constant_of Shift w = pos (field w 20 5)
constant_of Whole w = pos 0

-- rd is bits 11–7, rs1 bits 19–15, rs2 bits 24–20, where the format has them
unfoldable pub fields_of : Format → ℕ → ℕ → Instruction
fields_of R operation w = instruction operation (field w 7 5) (field w 15 5) (field w 20 5) (constant_of R w)
fields_of I operation w = instruction operation (field w 7 5) (field w 15 5) 0 (constant_of I w)
fields_of S operation w = instruction operation 0 (field w 15 5) (field w 20 5) (constant_of S w)
fields_of B operation w = instruction operation 0 (field w 15 5) (field w 20 5) (constant_of B w)
fields_of U operation w = instruction operation (field w 7 5) 0 0 (constant_of U w)
fields_of J operation w = instruction operation (field w 7 5) 0 0 (constant_of J w)
fields_of Shift operation w = instruction operation (field w 7 5) (field w 15 5) 0 (constant_of Shift w)
fields_of Whole operation w = instruction operation 0 0 0 (constant_of Whole w)

-- "Any other word is illegal."
abbrev pub read_as : ℕ → ℕ → Numbers
read_as zero w = illegal
read_as (suc n) w = legal (fields_of (format_of (suc n)) (suc n) w)

unfoldable pub read_of : ℕ → Numbers
read_of w = read_as (operation_of w) w
