-- Result, next address and stop of an instruction, from its address and the two values read.
use Rattle.std.specs.Prelude.{Option, None, Some, Result, Ok, Err, ℕ, ◌*◌, ◌/◌, ◌%◌, Bool, not, ltb, leb, eqb}
use Rattle.std.specs.Int.Bits.{bit_and, bit_or, bit_xor}
use mir.Val.{bool_byte}
use Rattle.word.specs.Arithmetic.{sum, difference, shift_left, shift_right, shift_right_signed, less_signed}
use Rattle.word.specs.Signed.{word_of}
use Rattle.isa.specs.Reads.{choose}
use Rattle.isa.specs.declared.Instruction.{Instruction}
use Rattle.execution.specs.declared.Alu.{Alu}
use Rattle.execution.specs.declared.Alu.TheVariants.{Add, Sub, Sll, Slt, Sltu, Xor, Srl, Sra, Or, And}
use Rattle.execution.specs.declared.Condition.{Condition}
use Rattle.execution.specs.declared.Condition.TheVariants.{Eq, Ne, Lt, Ge, Ltu, Geu}
use Rattle.execution.specs.declared.Computation.{Computation}
use Rattle.execution.specs.declared.Computation.TheVariants.{Upper, UpperAddress, Jump, JumpRegister, Branch, Immediate, Register, Fence}
use Rattle.execution.specs.declared.Action.{Action}
use Rattle.execution.specs.declared.Action.TheVariants.{Computes, LoadsSigned, LoadsUnsigned, Stores, Stops}
use Rattle.execution.specs.Causes.{cause_number}
use Rattle.execution.specs.Actions.{action_of}
use Rattle.execution.specs.Memory.{accessible}
use Rattle.execution.specs.declared.Cause.{Cause}
use Rattle.execution.specs.declared.Stop.{Stop}
use Rattle.execution.specs.declared.Executed.{Executed}

-- a shift takes the lowest five bits of its second operand; a test gives 1 or 0
abbrev pub compute : Alu → ℕ → ℕ → ℕ
compute Add a b = sum a b
compute Sub a b = difference a b
compute Sll a b = shift_left a (b % 32)
compute Slt a b = bool_byte (less_signed a b)
compute Sltu a b = bool_byte (ltb a b)
compute Xor a b = bit_xor a b
compute Srl a b = shift_right a (b % 32)
compute Sra a b = shift_right_signed a (b % 32)
compute Or a b = bit_or a b
compute And a b = bit_and a b

abbrev pub holds : Condition → ℕ → ℕ → Bool
holds Eq a b = eqb a b
holds Ne a b = not (eqb a b)
holds Lt a b = less_signed a b
holds Ge a b = not (less_signed a b)
holds Ltu a b = ltb a b
holds Geu a b = leb b a

abbrev pub stop : ℕ → Stop
stop cause = record { cause = cause }

-- the stop of a cause, and that of none
abbrev pub stop_for : Option Cause → Stop
stop_for None = stop 0
stop_for (Some cause) = stop (cause_number cause)

-- result, next address and stop; with a stop the result is 0 and the next address the instruction's own
pub record Outcome : Type 0 where
  pub result : ℕ
  pub next : ℕ
  pub stop : Stop

abbrev pub onward : ℕ → ℕ
onward address = sum address 4

abbrev pub goes : ℕ → ℕ → Outcome
goes result next = record { result = result; next = next; stop = stop 0 }

abbrev pub stops : ℕ → ℕ → Outcome
stops address cause = record { result = 0; next = address; stop = stop cause }

-- what is answered for an instruction at an address, in these numbers
abbrev pub outcome : ℕ → Result Executed Cause → Outcome
outcome address (Ok e) = goes e.result e.next
outcome address (Err cause) = stops address (cause_number cause)

-- cause 5: "taken branch or jump to a target not a multiple of 4"
abbrev pub jumps : ℕ → ℕ → ℕ → Outcome
jumps address result target = choose (eqb (target % 4) 0) (goes result target) (stops address 5)

-- c is the constant as a word; JALR clears bit 0 of its target
abbrev pub performed : Computation → ℕ → ℕ → ℕ → ℕ → Outcome
performed Upper address c first second = goes (shift_left c 12) (onward address)
performed UpperAddress address c first second = goes (sum address (shift_left c 12)) (onward address)
performed Jump address c first second = jumps address (onward address) (sum address c)
performed JumpRegister address c first second = jumps address (onward address) (sum first c / 2 * 2)
performed (Branch condition) address c first second = choose (holds condition first second) (jumps address 0 (sum address c)) (goes 0 (onward address))
performed (Immediate alu) address c first second = goes (compute alu first c) (onward address)
performed (Register alu) address c first second = goes (compute alu first second) (onward address)
performed Fence address c first second = goes 0 (onward address)

-- a load's result is its second value; cause 6 load, 7 store
unfoldable pub executed_by : Action → ℕ → ℕ → ℕ → ℕ → ℕ → Outcome
executed_by (Computes computation) bytes address c first second = performed computation address c first second
executed_by (LoadsSigned size) bytes address c first second = choose (accessible bytes (sum first c) size) (goes second (onward address)) (stops address 6)
executed_by (LoadsUnsigned size) bytes address c first second = choose (accessible bytes (sum first c) size) (goes second (onward address)) (stops address 6)
executed_by (Stores size) bytes address c first second = choose (accessible bytes (sum first c) size) (goes 0 (onward address)) (stops address 7)
executed_by (Stops cause) bytes address c first second = stops address (cause_number cause)

abbrev pub executed : ℕ → Instruction → ℕ → ℕ → ℕ → Outcome
executed bytes i address first second = executed_by (action_of i.operation) bytes address (word_of i.constant) first second
