-- What a step comes to, from what was found on the way.
use Prim.Native.Nat.{ℕ, zero, suc}
use mathlib.Core.Path.{◌≡◌, refl, sym, ap, ◌∙◌}
use mathlib.Core.Bool.{Bool, true, false}
use mathlib.Core.List.{List}
use native.Mathlib.Omega.{arith}
use borrow.Author.Tests.{eq-eqb, ne_eqb}
use lib.Dec.{eqb}
use lib.ListN.{length, get_or, set, length-set}
use lib.Seq.{get_or-set_other}
use Rattle.isa.specs.Listing.{fence}
use Rattle.isa.specs.Reads.{choose}
use Rattle.isa.specs.declared.Instruction.{Instruction}
use Rattle.isa.proofs.ChoiceLaws.{by_choice}
use Rattle.word.specs.Arithmetic.{sum}
use Rattle.word.specs.Bytes.{byte_of}
use Rattle.word.specs.Signed.{word_of}
use Rattle.execution.specs.declared.Action.{Action}
use Rattle.execution.specs.Actions.{action_of}
use Rattle.execution.specs.Memory.{second_by, stored_by, stored}
use Rattle.execution.specs.Execute.{stop, executed_by, executed, Outcome}
use Rattle.reference.specs.Fetch.{FetchNumbers, fetch_numbers, fetch_at}
use Rattle.reference.specs.Step.{State, Step, reached, used, first_source, second_source, destination, read_register, write_register, stopped_at, settled, first_of, second_of, step_with, step_fetched, step_of, length_refusal, step_answer, stepped_of}
use Rattle.execution.specs.Causes.{cause_number}
use Rattle.execution.specs.declared.Cause.{Cause}
use Rattle.std.specs.Prelude.{Ok, Err}
use Rattle.refusals.specs.Numbers.{number}
use Rattle.refusals.proofs.Laws.{number_some}
use Rattle.refusals.specs.declared.Refusal.{Refusal}

-- what holds of 0 and of the register in a field holds of the register used
pub used_by : (q : ℕ → Type 0) (i : Instruction) (register : ℕ) → q 0 → q register → q (used i register)
unfolding used
used_by q i register none some = by_choice q (eqb i.operation fence) 0 register (λ e. none) (λ e. some)

module _ (s : State) (i : Instruction) (memory : List ℕ) (o : Outcome) where
  settled_made : o.stop.cause ≡ 0 → settled s i memory o ≡ reached (write_register s.registers (destination i) o.result) o.next memory (stop 0)
  settled_made h = rw (eq-eqb o.stop.cause 0 h)

  settled_stopped : (o.stop.cause ≡ 0 → ⊥) → settled s i memory o ≡ stopped_at s o.stop
  settled_stopped h = rw (ne_eqb o.stop.cause 0 h)

-- a step whose values were found one after the other
module _ (i : Instruction) (s : State) (action : Action) (constant first operand at second : ℕ) (o : Outcome)
    (ea : action ≡ action_of i.operation) (ec : constant ≡ word_of i.constant)
    (e1 : first ≡ read_register s.registers (first_source i)) (e2 : operand ≡ read_register s.registers (second_source i)) (et : at ≡ sum first constant)
    (e3 : second ≡ second_by action (length s.memory) at operand (byte_of s.memory)) (eo : o ≡ executed_by action (length s.memory) s.address constant first second) where
  second_is : second ≡ second_of s i
  second_is = rw (e3, ea, et, ec, e2, e1)

  outcome_is : o ≡ executed (length s.memory) i s.address (first_of s i) (second_of s i)
  outcome_is = rw (eo, ea, ec, second_is, e1)

  memory_is : stored_by action at second s.memory ≡ stored i (first_of s i) (second_of s i) s.memory
  memory_is = rw (ea, et, ec, second_is, e1)

  with_is : step_with i s ≡ settled s i (stored_by action at second s.memory) o
  unfolding step_with
  with_is = rw (memory_is, outcome_is)

  pub step_made : o.stop.cause ≡ 0 → (registers memory : List ℕ) → registers ≡ write_register s.registers (destination i) o.result → memory ≡ stored_by action at second s.memory
      → step_with i s ≡ reached registers o.next memory (stop 0)
  step_made h registers memory r m = rw (r, m) (with_is ∙ settled_made s i (stored_by action at second s.memory) o h)

  pub step_not_made : (o.stop.cause ≡ 0 → ⊥) → step_with i s ≡ stopped_at s o.stop
  step_not_made h = with_is ∙ settled_stopped s i (stored_by action at second s.memory) o h

-- the step, by the fetch
module _ (program : List ℕ) (s : State) where
  pub step_found : (i : Instruction) → fetch_numbers (Ok i) ≡ fetch_at program s.address → step_of program s ≡ step_with i s
  unfolding step_of
  step_found i e = sym (ap (λ (f : FetchNumbers). step_fetched f s) e)

  pub step_stopped : (cause : Cause) → fetch_numbers (Err cause) ≡ fetch_at program s.address → step_of program s ≡ stopped_at s (stop (cause_number cause))
  unfolding step_of
  step_stopped cause e = sym (ap (λ (f : FetchNumbers). step_fetched f s) e)

  -- the exported step, by the refusal
  pub step_refused : (refusal : Refusal) → number refusal ≡ length_refusal program s.memory → stepped_of program s ≡ step_answer (stopped_at s (stop 0)) (number refusal)
  unfolding stepped_of
  step_refused refusal e =
      rw (ne_eqb (length_refusal program s.memory) 0 (λ z. number_some refusal (e ∙ z))) (ap (step_answer (stopped_at s (stop 0))) (sym e))

  pub step_accepted : 0 ≡ length_refusal program s.memory → stepped_of program s ≡ step_answer (step_of program s) 0
  unfolding stepped_of
  step_accepted e = rw (eq-eqb (length_refusal program s.memory) 0 (sym e))

-- what a step keeps
pub choose_either : {A B : Type 0} (f : A → B) (b : Bool) (x y : A) (z : B) → f x ≡ z → f y ≡ z → f (choose b x y) ≡ z
choose_either f true x y z p q = p
choose_either f false x y z p q = q

pub write_length : (registers : List ℕ) (r value : ℕ) → length (write_register registers r value) ≡ length registers
unfolding write_register
write_length registers r value = choose_either length (eqb r 0) registers (set registers r value) (length registers) refl (length-set registers r value)

pub write_other : (registers : List ℕ) (r value k : ℕ) → (k ≡ r → ⊥) → get_or (write_register registers r value) k 0 ≡ get_or registers k 0
unfolding write_register
write_other registers r value k h =
    choose_either (λ (l : List ℕ). get_or l k 0) (eqb r 0) registers (set registers r value) (get_or registers k 0) refl (get_or-set_other registers r k value 0 h)

pub write_zero : (registers : List ℕ) (r value : ℕ) → get_or (write_register registers r value) 0 0 ≡ get_or registers 0 0
unfolding write_register
write_zero registers zero value = refl
write_zero registers (suc r) value = rw (ne_eqb (suc r) 0 (λ e. omega arith)) (get_or-set_other registers (suc r) 0 value 0 (λ e. omega arith))

settled_registers : (s : State) (i : Instruction) (memory : List ℕ) (o : Outcome) → length (settled s i memory o).state.registers ≡ length s.registers
settled_registers s i memory o =
    choose_either (λ (x : Step). length x.state.registers) (eqb o.stop.cause 0) (reached (write_register s.registers (destination i) o.result) o.next memory (stop 0)) (stopped_at s o.stop)
    (length s.registers) (write_length s.registers (destination i) o.result) refl

pub with_registers : (i : Instruction) (s : State) → length (step_with i s).state.registers ≡ length s.registers
unfolding step_with
with_registers i s =
    settled_registers s i (stored i (first_of s i) (second_of s i) s.memory) (executed (length s.memory) i s.address (first_of s i) (second_of s i))

pub step_registers : (program : List ℕ) (s : State) → length (step_of program s).state.registers ≡ length s.registers
unfolding step_of
step_registers program s =
    choose_either (λ (x : Step). length x.state.registers) (fetch_at program s.address).found (step_with (fetch_at program s.address).fields s) (stopped_at s (fetch_at program s.address).stop) (length s.registers) (with_registers (fetch_at program s.address).fields s) refl

-- a stopped instruction changes nothing
settled_kept : (s : State) (i : Instruction) (memory : List ℕ) (o : Outcome) → ((settled s i memory o).stop.cause ≡ 0 → ⊥) → (settled s i memory o).state ≡ s
settled_kept s i memory o h = at (eqb o.stop.cause 0) h
  where
    at : (b : Bool) → ((choose b (reached (write_register s.registers (destination i) o.result) o.next memory (stop 0)) (stopped_at s o.stop)).stop.cause ≡ 0 → ⊥)
        → (choose b (reached (write_register s.registers (destination i) o.result) o.next memory (stop 0)) (stopped_at s o.stop)).state ≡ s
    at true g = absurd (g refl)
    at false g = refl

pub with_kept : (i : Instruction) (s : State) → ((step_with i s).stop.cause ≡ 0 → ⊥) → (step_with i s).state ≡ s
unfolding step_with
with_kept i s h = settled_kept s i (stored i (first_of s i) (second_of s i) s.memory) (executed (length s.memory) i s.address (first_of s i) (second_of s i)) h

pub step_kept : (program : List ℕ) (s : State) → ((step_of program s).stop.cause ≡ 0 → ⊥) → (step_of program s).state ≡ s
unfolding step_of
step_kept program s h = at (fetch_at program s.address).found h
  where
    at : (b : Bool) → ((choose b (step_with (fetch_at program s.address).fields s) (stopped_at s (fetch_at program s.address).stop)).stop.cause ≡ 0 → ⊥)
        → (choose b (step_with (fetch_at program s.address).fields s) (stopped_at s (fetch_at program s.address).stop)).state ≡ s
    at true g = with_kept (fetch_at program s.address).fields s g
    at false g = refl
