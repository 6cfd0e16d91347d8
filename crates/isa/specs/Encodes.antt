-- Which word an instruction has, and which the encoder refuses.
use Rattle.std.specs.Prelude.{ℕ, ◌+◌, ◌*◌, ◌%◌, ◌^◌, Bool, ◌&&◌, leb, eqb, ℤ, pos, neg_ℤ, Result, Ok, Err}
use Rattle.std.specs.Int.Signed.{le_z}
use Rattle.word.specs.Field.{field}
use Rattle.word.specs.Signed as Signed
use Rattle.isa.specs.Listing.{Format, R, I, S, B, U, J, Shift, Whole, last, format_of, fixed_of}
use Rattle.isa.specs.Reads.{choose}
use Rattle.isa.specs.declared.Instruction.{Instruction}
use Rattle.refusals.specs.Numbers.{number}
use Rattle.refusals.specs.declared.Refusal.{Refusal}
use Rattle.refusals.specs.declared.Refusal.TheVariants.{Encoding}

abbrev pub minus : ℕ → ℤ
minus n = neg_ℤ (pos n)

-- registers from 0 up to these limits, the constant from low to high and a multiple of step
pub record Limits : Type 0 where
  pub rd : ℕ
  pub rs1 : ℕ
  pub rs2 : ℕ
  pub low : ℤ
  pub high : ℤ
  pub step : ℕ

abbrev pub limits : ℕ → ℕ → ℕ → ℤ → ℤ → ℕ → Limits
limits rd rs1 rs2 low high step = record { rd = rd; rs1 = rs1; rs2 = rs2; low = low; high = high; step = step }

-- "registers 0–31; shift 0–31; I and S constants −2,048 to 2,047; branch −4,096 to 4,094, even; U 0 to 1,048,575; JAL −1,048,576 to 1,048,574, even";
-- "a field that the operation lacks must be 0"
abbrev pub limits_of : Format → Limits
limits_of R = limits 31 31 31 (pos 0) (pos 0) 1
limits_of I = limits 31 31 0 (minus 2_048) (pos 2_047) 1
limits_of S = limits 0 31 31 (minus 2_048) (pos 2_047) 1
limits_of B = limits 0 31 31 (minus 4_096) (pos 4_094) 2
limits_of U = limits 31 0 0 (pos 0) (pos 1_048_575) 1
limits_of J = limits 31 0 0 (minus 1_048_576) (pos 1_048_574) 2
limits_of Shift = limits 31 31 0 (pos 0) (pos 31) 1
limits_of Whole = limits 0 0 0 (pos 0) (pos 0) 1

unfoldable pub within : Limits → Instruction → Bool
within l i =
    leb i.rd l.rd && leb i.rs1 l.rs1 && leb i.rs2 l.rs2 && le_z l.low i.constant && le_z i.constant l.high && eqb (Signed.word_of i.constant % l.step) 0

unfoldable pub accepted : Instruction → Bool
accepted i = leb 1 i.operation && leb i.operation last && within (limits_of (format_of i.operation)) i

-- where the formats have the constant's bits, the highest first
unfoldable pub constant_part : Format → ℕ → ℕ
constant_part R c = 0
constant_part I c = field c 0 12 * 2 ^ 20
constant_part S c = field c 5 7 * 2 ^ 25 + field c 0 5 * 2 ^ 7
constant_part B c = field c 12 1 * 2 ^ 31 + field c 5 6 * 2 ^ 25 + field c 1 4 * 2 ^ 8 + field c 11 1 * 2 ^ 7
constant_part U c = field c 0 20 * 2 ^ 12
constant_part J c = field c 20 1 * 2 ^ 31 + field c 1 10 * 2 ^ 21 + field c 11 1 * 2 ^ 20 + field c 12 8 * 2 ^ 12
constant_part Shift c = field c 0 5 * 2 ^ 20
constant_part Whole c = 0

-- the fixed bits and the fields, at their places
unfoldable pub word_of : Instruction → ℕ
word_of i = fixed_of i.operation + i.rd * 2 ^ 7 + i.rs1 * 2 ^ 15 + i.rs2 * 2 ^ 20 + constant_part (format_of i.operation) (Signed.word_of i.constant)

-- the encoder's answer in numbers: a word and refusal 0, or word 0 and the refusal
pub record Encoded : Type 0 where
  pub word : ℕ
  pub refusal : ℕ

abbrev pub written : ℕ → Encoded
written w = record { word = w; refusal = 0 }

-- "30 operation number or field out of range, or a field that the operation lacks not 0; word 0 returned"
abbrev pub refused : Encoded
refused = record { word = 0; refusal = 30 }

unfoldable pub encoded_of : Instruction → Encoded
encoded_of i = choose (accepted i) (written (word_of i)) refused

-- the encoder's answer as these numbers
abbrev pub encoded : Result ℕ Refusal → Encoded
encoded (Ok word) = written word
encoded (Err refusal) = record { word = 0; refusal = number refusal }

-- a number as a field, which holds 8 bits
abbrev pub byte : ℕ → Result ℕ Refusal
byte n = choose (leb n 255) (Ok n) (Err Encoding)
