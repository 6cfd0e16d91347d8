-- What the renaming core and buyers cite of the in-order step and run, for all instructions at once.
use Rattle.std.specs.Prelude.{ℕ, ◌+◌, ◌≤◌, ◌<◌, ◌≡◌, true, List, eqb, length, get_or}
use Rattle.isa.specs.Listing.{fence}
use Rattle.isa.specs.Reads.{choose}
use Rattle.isa.specs.declared.Instruction.{Instruction}
use Rattle.execution.specs.Memory.{stored}
use Rattle.execution.specs.Execute.{stop, onward, executed}
use Rattle.reference.specs.Fetch.{fetch_at}
use Rattle.reference.specs.Step.{State, first_source, second_source, destination, reached, step_with, step_of}
use Rattle.reference.specs.Run.{Run, after, run_of}

-- a run that goes on for m steps more, unless it stopped
abbrev pub continued : ℕ → List ℕ → Run → Run
continued m program r = choose (eqb r.stop.cause 0) (after r.steps (run_of m program r.state)) r

pub record Statement : Type 0 where
  -- an instruction changes only its destination
  pub only_destination : (i : Instruction) (s : State) (r : ℕ) → (r ≡ destination i → ⊥) → get_or (step_with i s).state.registers r 0 ≡ get_or s.registers r 0
  -- and not register 0
  pub zero_kept : (i : Instruction) (s : State) → get_or (step_with i s).state.registers 0 0 ≡ get_or s.registers 0 0
  -- the memory keeps its length
  pub stored_length : (i : Instruction) (first second : ℕ) (memory : List ℕ) → length (stored i first second memory) ≡ length memory
  pub step_length : (program : List ℕ) (s : State) → length (step_of program s).state.memory ≡ length s.memory
  -- a stopped instruction changes nothing
  pub stopped : (program : List ℕ) (s : State) → ((step_of program s).stop.cause ≡ 0 → ⊥) → (step_of program s).state ≡ s
  -- FENCE "has no effect", whatever its fields, and "goes on at address + 4"
  pub fence_passes : (i : Instruction) (s : State) → i.operation ≡ fence → step_with i s ≡ reached s.registers (onward s.address) s.memory (stop 0)
  -- causes are 0 to 7
  pub cause_range : (bytes : ℕ) (i : Instruction) (address first second : ℕ) → (executed bytes i address first second).stop.cause ≤ 7
  -- what is fetched names registers
  pub registers : (program : List ℕ) (address : ℕ) → (fetch_at program address).found ≡ true
      → (first_source (fetch_at program address).fields < 32) × (second_source (fetch_at program address).fields < 32) × (destination (fetch_at program address).fields < 32)
  -- n + m steps are n steps, then m
  pub composed : (n m : ℕ) (program : List ℕ) (s : State) → run_of (n + m) program s ≡ continued m program (run_of n program s)
