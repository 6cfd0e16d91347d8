-- The in-order step.
use Rattle.std.specs.Prelude.{ℕ, ◌%◌, Bool, not, ◌&&◌, Option, None, Some, Result, Ok, Err, List, [], ◌∷◌, leb, eqb, length, get_or, set}
use Rattle.refusals.specs.Numbers.{number}
use Rattle.refusals.specs.declared.Refusal.{Refusal}
use Rattle.isa.specs.Listing.{fence}
use Rattle.isa.specs.Reads.{choose}
use Rattle.isa.specs.declared.Instruction.{Instruction}
use Rattle.execution.specs.Memory.{second_value, stored}
use Rattle.execution.specs.Execute.{stop, executed, Outcome}
use Rattle.reference.specs.Fetch.{FetchNumbers, fetch_at}
use Rattle.execution.specs.Causes.{cause_number}
use Rattle.execution.specs.declared.Cause.{Cause}
use Rattle.execution.specs.declared.Stop.{Stop}
use Rattle.reference.specs.declared.Stepped.{Stepped}

pub record State : Type 0 where
  pub registers : List ℕ
  pub address : ℕ
  pub memory : List ℕ

-- the state after a step, or as it was with a stop
pub record Step : Type 0 where
  pub state : State
  pub stop : Stop

abbrev pub state : List ℕ → ℕ → List ℕ → State
state registers address memory = record { registers = registers; address = address; memory = memory }

-- the logical register in a field, 0 for none: FENCE keeps its fields and "has no operands and no destination"
unfoldable pub used : Instruction → ℕ → ℕ
used i register = choose (eqb i.operation fence) 0 register

-- the logical registers that an instruction reads and writes, 0 for none
abbrev pub first_source : Instruction → ℕ
first_source i = used i i.rs1

abbrev pub second_source : Instruction → ℕ
second_source i = used i i.rs2

abbrev pub destination : Instruction → ℕ
destination i = used i i.rd

-- "x0 reads 0; writing it is no destination"
unfoldable pub read_register : List ℕ → ℕ → ℕ
read_register registers r = choose (eqb r 0) 0 (get_or registers r 0)

unfoldable pub write_register : List ℕ → ℕ → ℕ → List ℕ
write_register registers r value = choose (eqb r 0) registers (set registers r value)

-- a step that leads to these
abbrev pub reached : List ℕ → ℕ → List ℕ → Stop → Step
reached registers address memory why = record { state = state registers address memory; stop = why }

abbrev pub stopped_at : State → Stop → Step
stopped_at s why = record { state = s; stop = why }

-- a step on lent registers and data, by the next address or the cause handed back and the state that it leaves
abbrev pub advanced : Result ℕ Cause → State → Step
advanced (Ok next) s = reached s.registers next s.memory (stop 0)
advanced (Err cause) s = stopped_at s (stop (cause_number cause))

-- "A stopped instruction changes nothing."
abbrev pub settled : State → Instruction → List ℕ → Outcome → Step
settled s i memory outcome =
    choose (eqb outcome.stop.cause 0)
    (reached (write_register s.registers (destination i) outcome.result) outcome.next memory (stop 0))
    (stopped_at s outcome.stop)

abbrev pub first_of : State → Instruction → ℕ
first_of s i = read_register s.registers (first_source i)

abbrev pub second_of : State → Instruction → ℕ
second_of s i = second_value i (first_of s i) (read_register s.registers (second_source i)) s.memory

unfoldable pub step_with : Instruction → State → Step
step_with i s =
    settled s i (stored i (first_of s i) (second_of s i) s.memory) (executed (length s.memory) i s.address (first_of s i) (second_of s i))

abbrev pub step_fetched : FetchNumbers → State → Step
step_fetched f s = choose f.found (step_with f.fields s) (stopped_at s f.stop)

unfoldable pub step_of : List ℕ → State → Step
step_of program s = step_fetched (fetch_at program s.address) s

-- refusals in rising order, the first that applies
abbrev pub when : Bool → ℕ → ℕ
when applies number = choose applies number 0

unfoldable pub first : List ℕ → ℕ
first [] = 0
first (number ∷ numbers) = choose (eqb number 0) (first numbers) number

-- "Program: 4 to 16,384 bytes, a multiple of 4. Data: 0 to 16,384 bytes."
abbrev pub longest_program : ℕ
longest_program = 16_384

abbrev pub longest_data : ℕ
longest_data = 16_384

abbrev pub program_fits : ℕ → Bool
program_fits bytes = leb 4 bytes && leb bytes longest_program && eqb (bytes % 4) 0

abbrev pub data_fits : ℕ → Bool
data_fits bytes = leb bytes longest_data

unfoldable pub lengths_refusal : ℕ → ℕ → ℕ
lengths_refusal program bytes = first (when (not (program_fits program)) 3 ∷ when (not (data_fits bytes)) 4 ∷ [])

abbrev pub length_refusal : List ℕ → List ℕ → ℕ
length_refusal program memory = lengths_refusal (length program) (length memory)

-- 0 for no refusal
abbrev pub refusal_number : Option Refusal → ℕ
refusal_number None = 0
refusal_number (Some refusal) = number refusal

-- what the exported step hands back, and the data it leaves
pub record StepNumbers : Type 0 where
  pub registers : List ℕ
  pub address : ℕ
  pub stop : Stop
  pub refusal : ℕ

abbrev pub stepped : Stepped → StepNumbers
stepped s = record { registers = s.registers; address = s.address; stop = s.stop; refusal = refusal_number s.refusal }

pub record StepAnswer : Type 0 where
  pub answer : StepNumbers
  pub memory : List ℕ

abbrev pub step_answer : Step → ℕ → StepAnswer
step_answer s refusal =
    record { answer = record { registers = s.state.registers; address = s.state.address; stop = s.stop; refusal = refusal }; memory = s.state.memory }

unfoldable pub stepped_of : List ℕ → State → StepAnswer
stepped_of program s =
    choose (eqb (length_refusal program s.memory) 0) (step_answer (step_of program s) 0) (step_answer (stopped_at s (stop 0)) (length_refusal program s.memory))
