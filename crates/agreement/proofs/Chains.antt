-- Two walks along the entries, oldest first. Each reads a projection, so that a change that the projection does not show keeps the walk.
use Prim.Native.Nat.{ℕ, ◌<◌}
use mathlib.Core.Path.{◌≡◌}
use mathlib.Core.Logic.{◌≢◌}
use mathlib.Core.List.{List, [], ◌∷◌}
use lib.ListN.{get_or, set}
use Rattle.isa.specs.declared.Instruction.{Instruction}
use Rattle.reference.specs.Fetch.{fetch_at}
use Rattle.reference.specs.Step.{State, state, first_source, second_source, destination, read_register, first_of, second_of, step_of}
use Rattle.execution.specs.declared.Stop.{Stop}
use Rattle.tables.specs.declared.State.{State as Stage}
use Rattle.tables.specs.declared.State.TheVariants.{Waits, Issued, Completed}
use Rattle.tables.specs.declared.Entry.{Entry}
use Rattle.decoding.specs.Decode.{entering_stop}
use Rattle.agreement.proofs.View.{name_in}
use Rattle.agreement.proofs.Ghost.{Ghost}

-- renaming: nothing of states, registers or values
pub record Renaming : Type 0 where
  pub instruction : Instruction
  pub destination : ℕ
  pub name : ℕ
  pub previous : ℕ
  pub left : ℕ
  pub right : ℕ

abbrev pub renaming_of : Entry → Renaming
renaming_of e =
    record {
      instruction = e.instruction;
      destination = e.destination;
      name = e.name;
      previous = e.previous;
      left = name_in e.left;
      right = name_in e.right;
    }

-- an entry is renamed right under the names before it
pub record Renamed (g : Ghost) (names : List ℕ) (e : Renaming) : Type 0 where
  pub written : e.destination ≡ destination e.instruction
  pub small : e.destination < 32
  pub first : first_source e.instruction < 32
  pub second : second_source e.instruction < 32
  pub left : e.left ≡ get_or names (first_source e.instruction) 0
  pub right : e.right ≡ get_or names (second_source e.instruction) 0
  pub previous : e.previous ≡ get_or names e.destination 0
  pub writer : get_or g.writer e.name 0 ≡ e.destination
  pub unnamed : e.destination ≡ 0 → e.name ≡ 0

abbrev pub renames : List ℕ → Renaming → List ℕ
renames names e = set names e.destination e.name

unfoldable pub RenameChain : Ghost → List ℕ → List Renaming → Type 0
RenameChain g names [] = Unit
RenameChain g names (e ∷ es) = Renamed g names e × RenameChain g (renames names e) es

-- the names behind the last entry
unfoldable pub last_names : List ℕ → List Renaming → List ℕ
last_names names [] = names
last_names names (e ∷ es) = last_names (renames names e) es

-- execution: nothing of operands, maps or registers
pub record Execution : Type 0 where
  pub instruction : Instruction
  pub address : ℕ
  pub predicted : ℕ
  pub first : ℕ
  pub second : ℕ
  pub name : ℕ
  pub state : Stage
  pub stop : Stop

abbrev pub execution_of : Entry → Execution
execution_of e =
    record {
      instruction = e.instruction;
      address = e.address;
      predicted = e.predicted;
      first = e.first;
      second = e.second;
      name = e.name;
      state = e.state;
      stop = e.stop;
    }

-- the entry's instruction is executed, and does not stop on entering
abbrev pub Executable : List ℕ → State → Type 0
Executable program s = (entering_stop (fetch_at program s.address)).cause ≡ 0

-- what each state says, s being the in-order state before the entry
pub data Status (program : List ℕ) (s : State) (e : Execution) : Type 0 where
  waits : e.state ≡ Waits → e.stop.cause ≡ 0 → Executable program s → Status program s e
  reads : e.state ≡ Issued → e.first ≡ first_of s e.instruction → e.second ≡ second_of s e.instruction → e.stop.cause ≡ 0 → Executable program s → Status program s e
  done : e.state ≡ Completed → e.first ≡ first_of s e.instruction → e.second ≡ second_of s e.instruction → e.stop.cause ≡ 0 → Executable program s
      → (step_of program s).stop.cause ≡ 0 → (step_of program s).state.address ≡ e.predicted → Status program s e
  stops : e.state ≡ Completed → e.stop.cause ≢ 0 → (step_of program s).stop ≡ e.stop → Status program s e

-- its name stands for what the step leaves in its destination
pub record Executes (program : List ℕ) (g : Ghost) (s : State) (e : Execution) : Type 0 where
  pub address : e.address ≡ s.address
  pub instruction : e.instruction ≡ (fetch_at program s.address).fields
  pub value : get_or g.value e.name 0 ≡ read_register (step_of program s).state.registers (destination e.instruction)
  pub status : Status program s e

-- the in-order state behind an entry: one step further, at the address that was predicted
abbrev pub followed : List ℕ → State → ℕ → State
followed program s predicted = state (step_of program s).state.registers predicted (step_of program s).state.memory

unfoldable pub ExecutionChain : List ℕ → Ghost → State → List Execution → Type 0
ExecutionChain program g s [] = Unit
ExecutionChain program g s (e ∷ es) = Executes program g s e × ExecutionChain program g (followed program s e.predicted) es

-- the state behind the last entry; its address is where fetch goes on
unfoldable pub last_state : List ℕ → State → List Execution → State
last_state program s [] = s
last_state program s (e ∷ es) = last_state program (followed program s e.predicted) es
