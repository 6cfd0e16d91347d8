-- What every outcome of an instruction keeps to.
use Prim.Native.Nat.{ℕ, ◌+◌, ◌*◌, ◌/◌, ◌%◌, ◌≤◌}
use mathlib.Core.Path.{◌≡◌, refl}
use mathlib.Core.Bool.{Bool, true, false}
use native.Mathlib.Omega.{arith}
use lib.Dec.{leb, eqb}
use Rattle.laws.proofs.Bools.{and_right}
use Rattle.isa.specs.Reads.{choose}
use Rattle.isa.specs.declared.Instruction.{Instruction}
use Rattle.word.specs.Arithmetic.{sum}
use Rattle.word.specs.Signed.{word_of}
use Rattle.execution.proofs.CauseLaws.{cause_small}
use Rattle.execution.specs.Causes.{cause_number}
use Rattle.execution.specs.declared.Computation.{Computation}
use Rattle.execution.specs.declared.Computation.TheVariants.{Upper, UpperAddress, Jump, JumpRegister, Branch, Immediate, Register, Fence}
use Rattle.execution.specs.declared.Action.{Action}
use Rattle.execution.specs.declared.Action.TheVariants.{Computes, LoadsSigned, LoadsUnsigned, Stores, Stops}
use Rattle.execution.specs.Actions.{action_of}
use Rattle.execution.specs.Memory.{accessible, ends_within_by, store_ends_within}
use Rattle.execution.specs.Execute.{goes, stops, jumps, onward, holds, performed, executed_by, executed, Outcome}

-- a stop's cause is at most 7, and its next address the instruction's own
pub record Proper (address : ℕ) (o : Outcome) : Type 0 where
  pub cause : o.stop.cause ≤ 7
  pub next : (o.stop.cause ≡ 0 → ⊥) → o.next ≡ address

proper_goes : (address result next : ℕ) → Proper address (goes result next)
proper_goes address result next = record { cause = omega arith; next = λ h. absurd (h refl) }

proper_stops : (address cause : ℕ) → cause ≤ 7 → Proper address (stops address cause)
proper_stops address cause h = record { cause = h; next = λ g. refl }

proper_choose : (address : ℕ) (b : Bool) (x y : Outcome) → Proper address x → Proper address y → Proper address (choose b x y)
proper_choose address true x y p q = p
proper_choose address false x y p q = q

proper_jumps : (address result target : ℕ) → Proper address (jumps address result target)
proper_jumps address result target =
    proper_choose address (eqb (target % 4) 0) (goes result target) (stops address 5) (proper_goes address result target) (proper_stops address 5 (omega arith))

proper_performed : (computation : Computation) (address c first second : ℕ) → Proper address (performed computation address c first second)
proper_performed Upper address c first second = proper_goes address _ _
proper_performed UpperAddress address c first second = proper_goes address _ _
proper_performed Jump address c first second = proper_jumps address (onward address) (sum address c)
proper_performed JumpRegister address c first second = proper_jumps address (onward address) (sum first c / 2 * 2)
proper_performed (Branch condition) address c first second =
    proper_choose address (holds condition first second) (jumps address 0 (sum address c)) (goes 0 (onward address)) (proper_jumps address 0 (sum address c)) (proper_goes address 0 (onward address))
proper_performed (Immediate alu) address c first second = proper_goes address _ _
proper_performed (Register alu) address c first second = proper_goes address _ _
proper_performed Fence address c first second = proper_goes address _ _

proper_access : (b : Bool) (address cause result : ℕ) → cause ≤ 7 → Proper address (choose b (goes result (onward address)) (stops address cause))
proper_access b address cause result h =
    proper_choose address b (goes result (onward address)) (stops address cause) (proper_goes address result (onward address)) (proper_stops address cause h)

proper_by : (a : Action) (bytes address c first second : ℕ) → Proper address (executed_by a bytes address c first second)
unfolding executed_by
proper_by (Computes computation) bytes address c first second = proper_performed computation address c first second
proper_by (LoadsSigned size) bytes address c first second = proper_access (accessible bytes (sum first c) size) address 6 second (omega arith)
proper_by (LoadsUnsigned size) bytes address c first second = proper_access (accessible bytes (sum first c) size) address 6 second (omega arith)
proper_by (Stores size) bytes address c first second = proper_access (accessible bytes (sum first c) size) address 7 0 (omega arith)
proper_by (Stops cause) bytes address c first second = proper_stops address (cause_number cause) (cause_small cause)

pub executed_proper : (bytes : ℕ) (i : Instruction) (address first second : ℕ) → Proper address (executed bytes i address first second)
executed_proper bytes i address first second = proper_by (action_of i.operation) bytes address (word_of i.constant) first second

-- a store that ended without a cause stays within the data
accessible_ends : (bytes address size : ℕ) → accessible bytes address size ≡ true → leb (address + size) bytes ≡ true
unfolding accessible
accessible_ends bytes address size e = and_right (eqb (address % size) 0) (leb (address + size) bytes) e

store_at : (b : Bool) (address : ℕ) → (choose b (goes 0 (onward address)) (stops address 7)).stop.cause ≡ 0 → b ≡ true
store_at true address e = refl
store_at false address e = absurd (omega arith)

ends_by : (a : Action) (bytes address c first second : ℕ) → (executed_by a bytes address c first second).stop.cause ≡ 0 → ends_within_by a bytes (sum first c) ≡ true
unfolding executed_by ends_within_by
ends_by (Computes computation) bytes address c first second e = refl
ends_by (LoadsSigned size) bytes address c first second e = refl
ends_by (LoadsUnsigned size) bytes address c first second e = refl
ends_by (Stores size) bytes address c first second e = accessible_ends bytes (sum first c) size (store_at (accessible bytes (sum first c) size) address e)
ends_by (Stops cause) bytes address c first second e = refl

pub executed_ends : (bytes : ℕ) (i : Instruction) (address first second : ℕ) → (executed bytes i address first second).stop.cause ≡ 0 → store_ends_within bytes i first ≡ true
executed_ends bytes i address first second e = ends_by (action_of i.operation) bytes address (word_of i.constant) first second e
