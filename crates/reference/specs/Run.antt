-- The in-order run.
use Rattle.std.specs.Prelude.{ℕ, zero, suc, ◌+◌, List, eqb}
use Rattle.isa.specs.Reads.{choose}
use Rattle.execution.specs.Execute.{stop}
use Rattle.reference.specs.Step.{State, step_of, length_refusal, refusal_number}
use Rattle.execution.specs.declared.Stop.{Stop}
use Rattle.reference.specs.declared.Ran.{Ran}

-- the state after a run, the steps made and why it ended early
pub record Run : Type 0 where
  pub state : State
  pub steps : ℕ
  pub stop : Stop

abbrev pub ended : State → Stop → Run
ended s why = record { state = s; steps = 0; stop = why }

-- as many steps made before
abbrev pub after : ℕ → Run → Run
after steps r = record { state = r.state; steps = steps + r.steps; stop = r.stop }

-- "makes up to n steps …, ends early at a stop"; n is any natural number
unfoldable pub run_of : ℕ → List ℕ → State → Run
run_of zero program s = ended s (stop 0)
run_of (suc n) program s =
    choose (eqb (step_of program s).stop.cause 0) (after 1 (run_of n program (step_of program s).state)) (ended s (step_of program s).stop)

-- what the exported run hands back, and the data it leaves
pub record RunNumbers : Type 0 where
  pub registers : List ℕ
  pub address : ℕ
  pub steps : ℕ
  pub stop : Stop
  pub refusal : ℕ

abbrev pub ran : Ran → RunNumbers
ran r = record { registers = r.registers; address = r.address; steps = r.steps; stop = r.stop; refusal = refusal_number r.refusal }

pub record RunAnswer : Type 0 where
  pub answer : RunNumbers
  pub memory : List ℕ

abbrev pub run_answer : Run → ℕ → RunAnswer
run_answer r refusal =
    record {
      answer = record { registers = r.state.registers; address = r.state.address; steps = r.steps; stop = r.stop; refusal = refusal };
      memory = r.state.memory;
    }

-- "At a refusal registers and address come back as given, with 0 steps."
unfoldable pub ran_of : ℕ → List ℕ → State → RunAnswer
ran_of n program s =
    choose (eqb (length_refusal program s.memory) 0) (run_answer (run_of n program s) 0) (run_answer (ended s (stop 0)) (length_refusal program s.memory))
