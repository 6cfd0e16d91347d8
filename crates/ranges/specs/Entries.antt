-- What refusal 5 looks at in an entry.
use Rattle.std.specs.Prelude.{ℕ, Bool, true, false, not, ◌&&◌, ◌||◌, leb, eqb, ℤ, pos, negsuc}
use Rattle.isa.specs.Encodes.{accepted}
use Rattle.isa.specs.declared.Instruction.{Instruction}
use Rattle.execution.specs.Memory.{store_ends_within}
use Rattle.tables.specs.Entry.{is_completed}
use Rattle.tables.specs.declared.Operand.{Operand}
use Rattle.tables.specs.declared.Operand.TheVariants.{Zero, Waiting, Ready}
use Rattle.tables.specs.declared.Entry.{Entry}
use Rattle.ranges.specs.Sizes.{last_logical, names_of}
use Rattle.ranges.specs.declared.Setup.{Setup}

-- name above 31 + W, register above N
abbrev pub operand_in_range : ℕ → ℕ → Operand → Bool
operand_in_range names registers Zero = true
operand_in_range names registers (Waiting name) = leb name names
operand_in_range names registers (Ready name register) = leb name names && leb register registers

abbrev pub is_zero : ℤ → Bool
is_zero (pos n) = eqb n 0
is_zero (negsuc n) = false

-- "operation 0 with zero fields"
abbrev pub is_none : Instruction → Bool
is_none i = eqb i.operation 0 && eqb i.rd 0 && eqb i.rs1 0 && eqb i.rs2 0 && is_zero i.constant

-- an instruction that the encoder refuses ("operation 0 with zero fields passes in an entry completed with cause 1 or 4")
abbrev pub instruction_in_range : Entry → Bool
instruction_in_range e =
    accepted e.instruction || is_none e.instruction && is_completed e.state && (eqb e.stop.cause 1 || eqb e.stop.cause 4)

-- cause above 7, a cause in an entry not completed
abbrev pub cause_in_range : Entry → Bool
cause_in_range e = leb e.stop.cause 7 && (is_completed e.state || eqb e.stop.cause 0)

-- "a completed store without cause that leaves the data"
abbrev pub store_in_range : ℕ → Entry → Bool
store_in_range bytes e = not (is_completed e.state && eqb e.stop.cause 0) || store_ends_within bytes e.instruction e.first

unfoldable pub entry_in_range : Setup → Entry → Bool
entry_in_range s e =
    instruction_in_range e
    && leb e.destination last_logical
    && leb e.name (names_of s.window)
    && leb e.previous (names_of s.window)
    && operand_in_range (names_of s.window) s.registers e.left
    && operand_in_range (names_of s.window) s.registers e.right
    && cause_in_range e
    && store_in_range s.bytes e
