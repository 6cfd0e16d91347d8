-- The window's entries.
use Rattle.std.specs.Prelude.{ℕ, Bool, true, false, List}
use Rattle.isa.specs.Reads.{none}
use Rattle.execution.specs.Execute.{stop}
use Rattle.execution.specs.declared.Stop.{Stop}
use Rattle.tables.specs.Table.{look_up}
use Rattle.tables.specs.Operand.{wake, sleep}
use Rattle.tables.specs.declared.Operand.{Operand}
use Rattle.tables.specs.declared.Operand.TheVariants.{Zero}
use Rattle.tables.specs.declared.State.{State}
use Rattle.tables.specs.declared.State.TheVariants.{Waits, Issued, Completed}
use Rattle.tables.specs.declared.Entry.{Entry}

-- a state in numbers: 0 waiting, 1 issued, 2 completed
abbrev pub state_number : State → ℕ
state_number Waits = 0
state_number Issued = 1
state_number Completed = 2

abbrev pub is_completed : State → Bool
is_completed Waits = false
is_completed Issued = false
is_completed Completed = true

-- "a place past the last entry is all zeros"
abbrev pub empty_entry : Entry
empty_entry =
    record {
      instruction = none;
      address = 0;
      predicted = 0;
      first = 0;
      second = 0;
      result = 0;
      left = Zero;
      right = Zero;
      destination = 0;
      name = 0;
      previous = 0;
      state = Waits;
      stop = stop 0;
    }

abbrev pub with_operands : Entry → Operand → Operand → Entry
with_operands e left right = record e { left = left; right = right }

-- the state, the values read, the result, the cause and the predicted next address change
abbrev pub entry_with : State → ℕ → ℕ → ℕ → Stop → ℕ → Entry → Entry
entry_with state first second result why predicted e =
    record e { state = state; first = first; second = second; result = result; stop = why; predicted = predicted }

-- with the values that it read
abbrev pub issued_entry : ℕ → ℕ → Entry → Entry
issued_entry first second e = entry_with Issued first second e.result e.stop e.predicted e

-- "With a cause: only state and cause change."
abbrev pub stopped_entry : Stop → Entry → Entry
stopped_entry why e = entry_with Completed e.first e.second e.result why e.predicted e

abbrev pub completed_entry : ℕ → Entry → Entry
completed_entry result e = entry_with Completed e.first e.second result e.stop e.predicted e

-- "The victim becomes waiting"; "A waiting entry's values and result are zero"
abbrev pub waiting_entry : Entry → Entry
waiting_entry e = entry_with Waits 0 0 0 (stop 0) e.predicted e

abbrev pub predicted_entry : ℕ → Entry → Entry
predicted_entry next e = entry_with e.state e.first e.second e.result e.stop next e

abbrev pub wake_entry : ℕ → ℕ → Entry → Entry
wake_entry name register e = with_operands e (wake name register e.left) (wake name register e.right)

abbrev pub sleep_entry : ℕ → Entry → Entry
sleep_entry name e = with_operands e (sleep name e.left) (sleep name e.right)

abbrev pub is_waiting : State → Bool
is_waiting Waits = true
is_waiting Issued = false
is_waiting Completed = false

abbrev pub is_issued : State → Bool
is_issued Waits = false
is_issued Issued = true
is_issued Completed = false

-- "An entry holds a register if it is completed and the physical map gives its name one": that register, or 0
abbrev pub held_in : State → ℕ → ℕ
held_in Waits register = 0
held_in Issued register = 0
held_in Completed register = register

abbrev pub held : List ℕ → Entry → ℕ
held physical e = held_in e.state (look_up physical e.name)
