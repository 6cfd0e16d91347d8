-- Completion at its entry: the outcome of the values read is that of the in-order step.
use Prim.Native.Nat.{ℕ, ◌<◌}
use mathlib.Core.Path.{◌≡◌, refl, ap, sym, ◌∙◌}
use mathlib.Core.Logic.{◌≢◌}
use mathlib.Core.List.{List}
use native.Mathlib.Omega.{arith}
use lib.ListN.{length, get_or}
use Rattle.execution.specs.Execute.{executed, Outcome}
use Rattle.reference.specs.Step.{State, Step, destination, read_register, first_of, second_of}
use Rattle.tables.specs.Entry.{completed_entry, stopped_entry, predicted_entry}
use Rattle.tables.specs.declared.State.TheVariants.{Issued}
use Rattle.tables.specs.declared.Entry.{Entry}
use Rattle.completing.specs.Complete.{outcome_of}
use Rattle.agreement.proofs.Ghost.{Ghost}
use Rattle.agreement.proofs.Chains.{execution_of, Executable, waits, reads, done, stops, Executes}
use Rattle.agreement.proofs.Tests.{impossible}
use Rattle.agreement.proofs.Steps.{step_goes, step_stops, write_read}

-- what an issued entry has
pub record Read (p : List ℕ) (s : State) (e : Entry) : Type 0 where
  pub first : e.first ≡ first_of s e.instruction
  pub second : e.second ≡ second_of s e.instruction
  pub clean : e.stop.cause ≡ 0
  pub executable : Executable p s

-- the outcome of an entry, from the values that it read
module _ (p : List ℕ) (g : Ghost) (s : State) (e : Entry) (size : ℕ) (sized : length s.memory ≡ size) (executes : Executes p g s (execution_of e)) (now : e.state ≡ Issued) where
  pub issued_read : Read p s e
  issued_read = elim executes.status [
    | waits h clean x ↦ impossible (cc)
    | reads h a b clean x ↦ record { first = a; second = b; clean = clean; executable = x }
    | done h a b clean x y z ↦ impossible (cc)
    | stops h z y ↦ impossible (cc)
  ]

  in_order : executed (length s.memory) e.instruction s.address (first_of s e.instruction) (second_of s e.instruction) ≡ outcome_of size e
  in_order =
      ap (λ (n : ℕ). executed n e.instruction s.address (first_of s e.instruction) (second_of s e.instruction)) sized
      ∙ ap (λ (n : ℕ). executed size e.instruction n (first_of s e.instruction) (second_of s e.instruction)) (sym executes.address)
      ∙ ap (λ (n : ℕ). executed size e.instruction e.address n (second_of s e.instruction)) (sym issued_read.first)
      ∙ ap (λ (n : ℕ). executed size e.instruction e.address e.first n) (sym issued_read.second)

  module _ (o : Outcome) (is : outcome_of size e ≡ o) where
    abbrev actual : Outcome
    actual = executed (length s.memory) e.instruction s.address (first_of s e.instruction) (second_of s e.instruction)

    same : actual ≡ o
    same = in_order ∙ is

    goes : o.stop.cause ≡ 0 → actual.stop.cause ≡ 0
    goes z = ap (λ (x : Outcome). x.stop.cause) same ∙ z

    -- completed, with the actual next address for its prediction
    pub complete_executes : (v : ℕ) → o.stop.cause ≡ 0 → Executes p g s (execution_of (predicted_entry o.next (completed_entry v e)))
    complete_executes v z =
        let step = step_goes p s e.instruction issued_read.executable executes.instruction (goes z) in
        record {
          address = executes.address;
          instruction = executes.instruction;
          value = executes.value;
          status = done refl issued_read.first issued_read.second issued_read.clean issued_read.executable (ap (λ (x : Step). x.stop.cause) step)
              (ap (λ (x : Step). x.state.address) step ∙ ap (λ (x : Outcome). x.next) same);
        }

    -- its result is what its name stands for
    pub complete_value : o.stop.cause ≡ 0 → length s.registers ≡ 32 → destination e.instruction < 32 → destination e.instruction ≢ 0 → o.result ≡ get_or g.value e.name 0
    complete_value z l b d =
        let step = step_goes p s e.instruction issued_read.executable executes.instruction (goes z) in
        sym (executes.value ∙ ap (λ (x : Step). read_register x.state.registers (destination e.instruction)) step
        ∙ write_read s.registers (destination e.instruction) actual.result d (omega (arith, l, b)) ∙ ap (λ (x : Outcome). x.result) same)

    pub stop_executes : o.stop.cause ≢ 0 → Executes p g s (execution_of (stopped_entry o.stop e))
    stop_executes z =
        record {
          address = executes.address;
          instruction = executes.instruction;
          value = executes.value;
          status = stops refl z (step_stops p s e.instruction issued_read.executable executes.instruction (λ q. z (sym (ap (λ (x : Outcome). x.stop.cause) same) ∙ q)) ∙ ap (λ (x : Outcome). x.stop) same);
        }
