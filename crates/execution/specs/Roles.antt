-- What the renaming core asks of an instruction: whether it loads or stores, whether it stops at once, where it is predicted to go.
use Rattle.std.specs.Prelude.{ℕ, Bool, true, false}
use Rattle.word.specs.Arithmetic.{sum}
use Rattle.word.specs.Signed.{word_of}
use Rattle.isa.specs.declared.Instruction.{Instruction}
use Rattle.execution.specs.declared.Computation.{Computation}
use Rattle.execution.specs.declared.Computation.TheVariants.{Upper, UpperAddress, Jump, JumpRegister, Branch, Immediate, Register, Fence}
use Rattle.execution.specs.declared.Action.{Action}
use Rattle.execution.specs.declared.Action.TheVariants.{Computes, LoadsSigned, LoadsUnsigned, Stores, Stops}
use Rattle.execution.specs.Causes.{cause_number}
use Rattle.execution.specs.Actions.{action_of}
use Rattle.execution.specs.Execute.{stop, onward}
use Rattle.execution.specs.declared.Stop.{Stop}

unfoldable pub loads_by : Action → Bool
loads_by (Computes computation) = false
loads_by (LoadsSigned size) = true
loads_by (LoadsUnsigned size) = true
loads_by (Stores size) = false
loads_by (Stops cause) = false

abbrev pub loads : Instruction → Bool
loads i = loads_by (action_of i.operation)

unfoldable pub stores_by : Action → Bool
stores_by (Computes computation) = false
stores_by (LoadsSigned size) = false
stores_by (LoadsUnsigned size) = false
stores_by (Stores size) = true
stores_by (Stops cause) = false

abbrev pub stores : Instruction → Bool
stores i = stores_by (action_of i.operation)

-- the stop of ECALL and EBREAK, without a cause for all that execute
unfoldable pub stop_by : Action → Stop
stop_by (Computes computation) = stop 0
stop_by (LoadsSigned size) = stop 0
stop_by (LoadsUnsigned size) = stop 0
stop_by (Stores size) = stop 0
stop_by (Stops cause) = stop (cause_number cause)

abbrev pub stop_at_once : Instruction → Stop
stop_at_once i = stop_by (action_of i.operation)

-- "Predicted next: the guess for branches and JALR, the target for JAL, else … address + 4."
abbrev pub ahead_of : Computation → ℕ → ℕ → ℕ → ℕ
ahead_of Upper address c guess = onward address
ahead_of UpperAddress address c guess = onward address
ahead_of Jump address c guess = sum address c
ahead_of JumpRegister address c guess = guess
ahead_of (Branch condition) address c guess = guess
ahead_of (Immediate alu) address c guess = onward address
ahead_of (Register alu) address c guess = onward address
ahead_of Fence address c guess = onward address

unfoldable pub predicted_by : Action → ℕ → ℕ → ℕ → ℕ
predicted_by (Computes computation) address c guess = ahead_of computation address c guess
predicted_by (LoadsSigned size) address c guess = onward address
predicted_by (LoadsUnsigned size) address c guess = onward address
predicted_by (Stores size) address c guess = onward address
predicted_by (Stops cause) address c guess = onward address

abbrev pub predicted_next : Instruction → ℕ → ℕ → ℕ
predicted_next i address guess = predicted_by (action_of i.operation) address (word_of i.constant) guess
