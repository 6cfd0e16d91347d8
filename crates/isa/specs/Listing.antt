-- The manual's listing of RV32I (volume I, chapter 24, "RV32/64G Instruction Set Listings"): a row for each operation, in its order, FENCE
-- last (document 02, wish 3). An operation's number is its place here.
use Rattle.std.specs.Prelude.{List, [], ◌∷◌, ℕ, ◌+◌, ◌*◌, ◌^◌, get_or}
-- R, I, S, B, U and J are the manual's formats. Shift: an I format whose constant is a shift amount, with bits 31–25 fixed. Whole: a word without fields.
pub use Rattle.isa.specs.declared.Format.{Format}
pub use Rattle.isa.specs.declared.Format.TheVariants.{R, I, S, B, U, J, Shift, Whole}

-- an operation's format, and its fixed bits at their places with zeros where the format has fields
pub record Row : Type 0 where
  pub format : Format
  pub fixed : ℕ

-- format, bits 31–25, bits 14–12, opcode (bits 6–0)
abbrev row : Format → ℕ → ℕ → ℕ → Row
row format upper middle opcode = record { format = format; fixed = upper * 2 ^ 25 + middle * 2 ^ 12 + opcode }

abbrev whole : ℕ → Row
whole word = record { format = Whole; fixed = word }

abbrev pub listing : List Row
listing =
    whole 0  -- 0 is no operation
    ∷ row U 0x00 0 0x37  -- 1 LUI
    ∷ row U 0x00 0 0x17  -- 2 AUIPC
    ∷ row J 0x00 0 0x6f  -- 3 JAL
    ∷ row I 0x00 0 0x67  -- 4 JALR
    ∷ row B 0x00 0 0x63  -- 5 BEQ
    ∷ row B 0x00 1 0x63  -- 6 BNE
    ∷ row B 0x00 4 0x63  -- 7 BLT
    ∷ row B 0x00 5 0x63  -- 8 BGE
    ∷ row B 0x00 6 0x63  -- 9 BLTU
    ∷ row B 0x00 7 0x63  -- 10 BGEU
    ∷ row I 0x00 0 0x03  -- 11 LB
    ∷ row I 0x00 1 0x03  -- 12 LH
    ∷ row I 0x00 2 0x03  -- 13 LW
    ∷ row I 0x00 4 0x03  -- 14 LBU
    ∷ row I 0x00 5 0x03  -- 15 LHU
    ∷ row S 0x00 0 0x23  -- 16 SB
    ∷ row S 0x00 1 0x23  -- 17 SH
    ∷ row S 0x00 2 0x23  -- 18 SW
    ∷ row I 0x00 0 0x13  -- 19 ADDI
    ∷ row I 0x00 2 0x13  -- 20 SLTI
    ∷ row I 0x00 3 0x13  -- 21 SLTIU
    ∷ row I 0x00 4 0x13  -- 22 XORI
    ∷ row I 0x00 6 0x13  -- 23 ORI
    ∷ row I 0x00 7 0x13  -- 24 ANDI
    ∷ row Shift 0x00 1 0x13  -- 25 SLLI
    ∷ row Shift 0x00 5 0x13  -- 26 SRLI
    ∷ row Shift 0x20 5 0x13  -- 27 SRAI
    ∷ row R 0x00 0 0x33  -- 28 ADD
    ∷ row R 0x20 0 0x33  -- 29 SUB
    ∷ row R 0x00 1 0x33  -- 30 SLL
    ∷ row R 0x00 2 0x33  -- 31 SLT
    ∷ row R 0x00 3 0x33  -- 32 SLTU
    ∷ row R 0x00 4 0x33  -- 33 XOR
    ∷ row R 0x00 5 0x33  -- 34 SRL
    ∷ row R 0x20 5 0x33  -- 35 SRA
    ∷ row R 0x00 6 0x33  -- 36 OR
    ∷ row R 0x00 7 0x33  -- 37 AND
    ∷ whole 0x0000_0073  -- 38 ECALL
    ∷ whole 0x0010_0073  -- 39 EBREAK
    ∷ row I 0x00 0 0x0f  -- 40 FENCE: "any value in the other fields"
    ∷ []

abbrev pub fence : ℕ
fence = 40

abbrev pub last : ℕ
last = 40

abbrev pub row_of : ℕ → Row
row_of operation = get_or listing operation (whole 0)

abbrev pub format_of : ℕ → Format
format_of operation = (row_of operation).format

abbrev pub fixed_of : ℕ → ℕ
fixed_of operation = (row_of operation).fixed
