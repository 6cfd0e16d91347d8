-- The statement on the in-order step and run.
use Prim.Native.Nat.{ℕ, ◌<◌}
use mathlib.Core.Path.{◌≡◌, refl}
use mathlib.Core.List.{List}
use native.Mathlib.Omega.{arith}
use lib.Dec.{eqb}
use lib.ListN.{length, get_or}
use Rattle.isa.specs.declared.Instruction.{Instruction}
use Rattle.execution.specs.Actions.{action_of}
use Rattle.execution.specs.Memory.{effective, second_by, stored_by, stored}
use Rattle.isa.specs.Listing.{fence}
use Rattle.execution.specs.Execute.{stop, onward, executed_by, executed, Outcome}
use Rattle.reference.specs.Fetch.{fetch_at}
use Rattle.reference.specs.Step.{State, Step, reached, used, destination, write_register, stopped_at, settled, first_of, second_of, step_with, step_of}
use Rattle.reference.specs.Statement.{Statement}
use Rattle.reference.proofs.FetchLaws.{fetched_small}
use Rattle.execution.proofs.MemoryLaws as Memory
use Rattle.execution.proofs.OutcomeLaws.{executed_proper}
use Rattle.reference.proofs.RunLaws.{composed}
use Rattle.reference.proofs.StepLaws.{used_by, choose_either, write_other, write_zero, step_kept}

-- a register that is not written, by what a made step writes
register_kept : (s : State) (i : Instruction) (memory : List ℕ) (o : Outcome) (r : ℕ) → get_or (write_register s.registers (destination i) o.result) r 0 ≡ get_or s.registers r 0
    → get_or (settled s i memory o).state.registers r 0 ≡ get_or s.registers r 0
register_kept s i memory o r e =
    choose_either (λ (x : Step). get_or x.state.registers r 0) (eqb o.stop.cause 0) (reached (write_register s.registers (destination i) o.result) o.next memory (stop 0)) (stopped_at s o.stop)
    (get_or s.registers r 0) e refl

only_destination : (i : Instruction) (s : State) (r : ℕ) → (r ≡ destination i → ⊥) → get_or (step_with i s).state.registers r 0 ≡ get_or s.registers r 0
unfolding step_with
only_destination i s r h =
    register_kept s i (stored i (first_of s i) (second_of s i) s.memory) (executed (length s.memory) i s.address (first_of s i) (second_of s i)) r (write_other s.registers (destination i) _ r h)

zero_kept : (i : Instruction) (s : State) → get_or (step_with i s).state.registers 0 0 ≡ get_or s.registers 0 0
unfolding step_with
zero_kept i s =
    register_kept s i (stored i (first_of s i) (second_of s i) s.memory) (executed (length s.memory) i s.address (first_of s i) (second_of s i)) 0 (write_zero s.registers (destination i) _)

stored_length : (i : Instruction) (first second : ℕ) (memory : List ℕ) → length (stored i first second memory) ≡ length memory
stored_length i first second memory = Memory.stored_length (action_of i.operation) (effective i first) second memory

with_length : (i : Instruction) (s : State) → length (step_with i s).state.memory ≡ length s.memory
unfolding step_with
with_length i s =
    let memory = stored i (first_of s i) (second_of s i) s.memory in
    let o = executed (length s.memory) i s.address (first_of s i) (second_of s i) in
    choose_either (λ (x : Step). length x.state.memory) (eqb o.stop.cause 0) (reached (write_register s.registers (destination i) o.result) o.next memory (stop 0)) (stopped_at s o.stop)
    (length s.memory) (stored_length i (first_of s i) (second_of s i) s.memory) refl

step_length : (program : List ℕ) (s : State) → length (step_of program s).state.memory ≡ length s.memory
unfolding step_of
step_length program s =
    let f = fetch_at program s.address in
    choose_either (λ (x : Step). length x.state.memory) f.found (step_with f.fields s) (stopped_at s f.stop) (length s.memory) (with_length f.fields s) refl

fence_passes : (i : Instruction) (s : State) → i.operation ≡ fence → step_with i s ≡ reached s.registers (onward s.address) s.memory (stop 0)
unfolding step_with used write_register second_by stored_by executed_by
fence_passes i s e = rw e

used_small : (i : Instruction) (register : ℕ) → register < 32 → used i register < 32
used_small i register h = used_by (λ (n : ℕ). n < 32) i register (omega arith) h

pub statement : Statement
statement =
    record {
      only_destination = only_destination;
      zero_kept = zero_kept;
      stored_length = stored_length;
      step_length = step_length;
      stopped = step_kept;
      fence_passes = fence_passes;
      cause_range = λ bytes i address first second. (executed_proper bytes i address first second).cause;
      registers = λ program address e.
          let i = (fetch_at program address).fields in
          let s = fetched_small program address e in
          (used_small i i.rs1 s.rs1, used_small i i.rs2 s.rs2, used_small i i.rd s.rd);
      composed = λ n m program s. composed m program n s;
    }
