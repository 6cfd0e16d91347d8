-- What the encoder's test says of the fields, and the encoder's answer by that test.
use Prim.Native.Nat.{ℕ, ◌+◌, ◌-◌, ◌*◌, ◌%◌, ◌^◌, ◌≤◌, ◌<◌}
use mathlib.Core.Path.{◌≡◌, refl, sym, ap, ◌∙◌}
use mathlib.Core.Bool.{Bool, true, false}
use native.Mathlib.Omega.{arith}
use borrow.Author.Rules.{rules}
use borrow.Author.Tests.{tests, le-leb}
use Rattle.std.proofs.Common.{leb-false}
use Rattle.std.specs.Prelude.{Result, Ok, Err}
use Rattle.refusals.proofs.NumberLaws.{number_injective, number_positive}
use Rattle.refusals.specs.declared.Refusal.{Refusal}
use Rattle.refusals.specs.declared.Refusal.TheVariants.{Encoding}
use lib.Dec.{leb, leb→le}
use lib.Signed.{le_z}
use Rattle.word.specs.Signed as Signed
use Rattle.word.proofs.FieldLaws.{below}
use Rattle.laws.proofs.Table.{anywhere}
use Rattle.isa.specs.Listing as Listing
use Rattle.isa.specs.Listing.{Format, R, I, S, B, U, J, Shift, Whole, Row, listing, row_of, format_of, fixed_of}
use Rattle.isa.specs.Reads.{choose}
use Rattle.isa.specs.Encodes.{Limits, Encoded, byte, encoded, limits_of, within, accepted, constant_part, word_of, written, refused, encoded_of}
use Rattle.isa.specs.declared.Instruction.{Instruction}

pub record Within (l : Limits) (i : Instruction) : Type 0 where
  pub rd : i.rd ≤ l.rd
  pub rs1 : i.rs1 ≤ l.rs1
  pub rs2 : i.rs2 ≤ l.rs2
  pub from : le_z l.low i.constant ≡ true
  pub to : le_z i.constant l.high ≡ true
  pub step : Signed.word_of i.constant % l.step ≡ 0

pub within_says : (l : Limits) (i : Instruction) → within l i ≡ true → Within l i
unfolding within
within_says l i t =
    record { rd = search (rules, tests); rs1 = search (rules, tests); rs2 = search (rules, tests); from = search (rules, tests); to = search (rules, tests); step = search (rules, tests) }

pub within_holds : (l : Limits) (i : Instruction) → Within l i → within l i ≡ true
unfolding within
within_holds l i w =
    grind (arith, tests, w.rd, w.rs1, w.rs2, w.from, w.to, w.step)

-- the test, by the operation number and the format's limits
module _ (i : Instruction) where
  pub by_format : 1 ≤ i.operation → i.operation ≤ Listing.last → within (limits_of (format_of i.operation)) i ≡ accepted i
  unfolding accepted
  by_format l h = rw (le-leb 1 i.operation l, le-leb i.operation Listing.last h)

pub record Accepted (i : Instruction) : Type 0 where
  pub first : 1 ≤ i.operation
  pub last : i.operation ≤ Listing.last
  pub fields : Within (limits_of (format_of i.operation)) i

pub accepted_says : (i : Instruction) → accepted i ≡ true → Accepted i
unfolding accepted
accepted_says i t =
    record { first = search (rules, tests); last = search (rules, tests); fields = within_says (limits_of (format_of i.operation)) i (search (rules, tests)) }

pub accepted_holds : (i : Instruction) → Accepted i → accepted i ≡ true
accepted_holds i a = sym (by_format i a.first a.last) ∙ within_holds (limits_of (format_of i.operation)) i a.fields

-- every format's limits are those of registers
registers : (F : Format) → ((limits_of F).rd ≤ 31) × ((limits_of F).rs1 ≤ 31) × ((limits_of F).rs2 ≤ 31)
registers R = (omega arith, omega arith, omega arith)
registers I = (omega arith, omega arith, omega arith)
registers S = (omega arith, omega arith, omega arith)
registers B = (omega arith, omega arith, omega arith)
registers U = (omega arith, omega arith, omega arith)
registers J = (omega arith, omega arith, omega arith)
registers Shift = (omega arith, omega arith, omega arith)
registers Whole = (omega arith, omega arith, omega arith)

pub record Registers (i : Instruction) : Type 0 where
  pub rd : i.rd ≤ 31
  pub rs1 : i.rs1 ≤ 31
  pub rs2 : i.rs2 ≤ 31

pub accepted_registers : (i : Instruction) → Accepted i → Registers i
accepted_registers i a =
    let r = registers (format_of i.operation) in
    let f = a.fields in
    record { rd = omega (arith, r.0, f.rd); rs1 = omega (arith, r.1, f.rs1); rs2 = omega (arith, r.2, f.rs2) }

-- a number that is a byte is kept
kept_at : (b : Bool) (n m : ℕ) → Ok m ≡ choose b (Ok n) (Err Encoding) → m ≡ n
kept_at true n m e = cc
kept_at false n m e = cc

pub byte_kept : (n m : ℕ) → Ok m ≡ byte n → m ≡ n
byte_kept n m e = kept_at (leb n 255) n m e

-- the encoder's answer, by its test
pub answer_written : (i : Instruction) → accepted i ≡ true → written (word_of i) ≡ encoded_of i
unfolding encoded_of
answer_written i t = rw t

pub answer_refused : (i : Instruction) → accepted i ≡ false → refused ≡ encoded_of i
unfolding encoded_of
answer_refused i t = rw t

-- the numbers of the encoder's answer settle it
pub encoded_injective : (a b : Result ℕ Refusal) → encoded a ≡ encoded b → a ≡ b
encoded_injective (Ok v) (Ok w) e = ap (λ (x : Encoded). Ok x.word) e
encoded_injective (Ok v) (Err r) e = absurd (omega (arith, number_positive r, ap (λ (x : Encoded). x.refusal) e))
encoded_injective (Err r) (Ok v) e = absurd (omega (arith, number_positive r, ap (λ (x : Encoded). x.refusal) e))
encoded_injective (Err r) (Err s) e = ap (λ (x : Refusal). Err x) (number_injective r s (ap (λ (x : Encoded). x.refusal) e))

-- a field that is no byte is refused
byte_at : (a b : Bool) (i : Instruction) (n : ℕ) (r : Refusal) → accepted i ≡ a → leb n 255 ≡ b → (Accepted i → n ≤ 255) → Err r ≡ choose b (Ok n) (Err Encoding) → encoded (Err r) ≡ choose a (written (word_of i)) refused
byte_at a true i n r p q h e = cc
byte_at true false i n r p q h e = absurd (omega (arith, h (accepted_says i p), leb-false n 255 q))
byte_at false false i n r p q h e = let s : r ≡ Encoding = cc in rw s

refused_byte : (i : Instruction) (n : ℕ) (r : Refusal) → (Accepted i → n ≤ 255) → Err r ≡ byte n → encoded (Err r) ≡ encoded_of i
unfolding encoded_of
refused_byte i n r h e = byte_at (accepted i) (leb n 255) i n r refl refl h e

module _ (i : Instruction) (r : Refusal) where
  pub refused_operation : Err r ≡ byte i.operation → encoded (Err r) ≡ encoded_of i
  refused_operation e = refused_byte i i.operation r (λ a. omega (arith, a.last)) e

  pub refused_rd : Err r ≡ byte i.rd → encoded (Err r) ≡ encoded_of i
  refused_rd e = refused_byte i i.rd r (λ a. omega (arith, (accepted_registers i a).rd)) e

  pub refused_rs1 : Err r ≡ byte i.rs1 → encoded (Err r) ≡ encoded_of i
  refused_rs1 e = refused_byte i i.rs1 r (λ a. omega (arith, (accepted_registers i a).rs1)) e

  pub refused_rs2 : Err r ≡ byte i.rs2 → encoded (Err r) ≡ encoded_of i
  refused_rs2 e = refused_byte i i.rs2 r (λ a. omega (arith, (accepted_registers i a).rs2)) e

-- the fixed bits, at most
abbrev most : Format → ℕ
most R = 127 * 2 ^ 25 + 7 * 2 ^ 12 + 127
most I = 7 * 2 ^ 12 + 127
most S = 7 * 2 ^ 12 + 127
most B = 7 * 2 ^ 12 + 127
most U = 127
most J = 127
most Shift = 127 * 2 ^ 25 + 7 * 2 ^ 12 + 127
most Whole = 2 ^ 32 - 1

abbrev small : Row → Bool
small r = leb r.fixed (most r.format)

fixed_most : (operation : ℕ) → fixed_of operation ≤ most (format_of operation)
fixed_most operation = leb→le _ _ (anywhere small listing (row_of 0) tt tt operation)

-- an accepted instruction's word is a word
fits_at : (F : Format) (i : Instruction) (fixed : ℕ) → fixed ≤ most F → Within (limits_of F) i
    → fixed + i.rd * 2 ^ 7 + i.rs1 * 2 ^ 15 + i.rs2 * 2 ^ 20 + constant_part F (Signed.word_of i.constant) < 2 ^ 32
unfolding constant_part
fits_at R i fixed h t = omega arith
fits_at I i fixed h t = let c = Signed.word_of i.constant in omega (arith, below c 0 12)
fits_at S i fixed h t = let c = Signed.word_of i.constant in omega (arith, below c 5 7, below c 0 5)
fits_at B i fixed h t = let c = Signed.word_of i.constant in omega (arith, below c 12 1, below c 5 6, below c 1 4, below c 11 1)
fits_at U i fixed h t = let c = Signed.word_of i.constant in omega (arith, below c 0 20)
fits_at J i fixed h t = let c = Signed.word_of i.constant in omega (arith, below c 20 1, below c 1 10, below c 11 1, below c 12 8)
fits_at Shift i fixed h t = let c = Signed.word_of i.constant in omega (arith, below c 0 5)
fits_at Whole i fixed h t = omega arith

pub word_fits : (i : Instruction) → Accepted i → word_of i < 2 ^ 32
unfolding word_of
word_fits i a =
    fits_at (format_of i.operation) i (fixed_of i.operation) (fixed_most i.operation) a.fields

pub accepted_fits : (i : Instruction) → accepted i ≡ true → word_of i < 2 ^ 32
accepted_fits i t = word_fits i (accepted_says i t)
