-- What a buyer cites of the reader and the encoder, for all operations at once.
use Rattle.std.specs.Prelude.{ℕ, ◌^◌, ◌<◌, ◌≤◌, ◌≡◌, ◌⊎◌, ℤ, pos, ◌+ℤ◌, ◌≤ℤ◌}
use Rattle.isa.specs.Listing as Listing
use Rattle.isa.specs.Listing.{Format, R, I, S, B, U, J, Shift, Whole, format_of}
use Rattle.isa.specs.Reads.{read_of, legal}
use Rattle.isa.specs.Encodes.{encoded_of, written, refused, minus}
use Rattle.isa.specs.declared.Instruction.{Instruction}

pub record Between (low high number : ℤ) : Type 0 where
  pub from : low ≤ℤ number
  pub to : number ≤ℤ high

pub record Even (number : ℤ) : Type 0 where
  pub half : ℤ
  pub twice : number ≡ half +ℤ half

pub record Fields (Rd Rs1 Rs2 : ℕ → Type 0) (Constant : ℤ → Type 0) (i : Instruction) : Type 0 where
  pub rd : Rd i.rd
  pub rs1 : Rs1 i.rs1
  pub rs2 : Rs2 i.rs2
  pub constant : Constant i.constant

abbrev Register : ℕ → Type 0
Register n = n ≤ 31

abbrev Lacks : ℕ → Type 0
Lacks n = n ≡ 0

abbrev NoConstant : ℤ → Type 0
NoConstant c = c ≡ pos 0

abbrev pub Ranges : Format → Instruction → Type 0
Ranges R = Fields Register Register Register NoConstant
Ranges I = Fields Register Register Lacks (Between (minus 2_048) (pos 2_047))
Ranges S = Fields Lacks Register Register (Between (minus 2_048) (pos 2_047))
Ranges B = Fields Lacks Register Register (λ (c : ℤ). Between (minus 4_096) (pos 4_094) c × Even c)
Ranges U = Fields Register Lacks Lacks (Between (pos 0) (pos 1_048_575))
Ranges J = Fields Register Lacks Lacks (λ (c : ℤ). Between (minus 1_048_576) (pos 1_048_574) c × Even c)
Ranges Shift = Fields Register Register Lacks (Between (pos 0) (pos 31))
Ranges Whole = Fields Lacks Lacks Lacks NoConstant

pub record InRange (i : Instruction) : Type 0 where
  pub first : 1 ≤ i.operation
  pub last : i.operation ≤ Listing.last
  pub ranges : Ranges (format_of i.operation) i

pub record Statement : Type 0 where
  -- every legal word is written back as itself
  pub word_back : (w : ℕ) (i : Instruction) → w < 2 ^ 32 → read_of w ≡ legal i → encoded_of i ≡ written w
  -- what the reader gives the encoder takes
  pub read_taken : (w : ℕ) (i : Instruction) → w < 2 ^ 32 → read_of w ≡ legal i → InRange i
  -- what the encoder writes the reader reads back as the same fields, and it is a word
  pub fields_back : (i : Instruction) (w : ℕ) → encoded_of i ≡ written w → (read_of w ≡ legal i) × (w < 2 ^ 32)
  -- the encoder takes just the fields in range
  pub taken : (i : Instruction) → InRange i → (encoded_of i).refusal ≡ 0
  pub only_taken : (i : Instruction) → (encoded_of i).refusal ≡ 0 → InRange i
  -- and refuses all others by 30, with word 0
  pub else_refused : (i : Instruction) → ((encoded_of i).refusal ≡ 0) ⊎ (encoded_of i ≡ refused)
