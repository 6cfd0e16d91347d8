-- The in-order run, one commit further.
use Prim.Native.Nat.{ℕ, ◌+◌}
use mathlib.Core.Path.{◌≡◌, refl, ap, ◌∙◌}
use mathlib.Core.List.{List}
use native.Mathlib.Nat.{add-zero}
use Rattle.execution.specs.Execute.{stop}
use Rattle.reference.specs.Run.{Run, after, run_of}
use Rattle.reference.specs.Statement.{continued}
use Rattle.reference.specs.Step.{State, step_of}
use Rattle.execution.specs.declared.Stop.{Stop}
use Rattle.reference.proofs.RunLaws.{run_step, run_stop, composed}

-- a run that made k steps
abbrev pub ran : State → ℕ → Stop → Run
ran s k why = record { state = s; steps = k; stop = why }

pub run_none : (program : List ℕ) (s : State) → run_of 0 program s ≡ ran s 0 (stop 0)
unfolding run_of
run_none program s = refl

module _ (n k : ℕ) (program : List ℕ) (start s : State) (so_far : run_of n program start ≡ ran s k (stop 0)) where
  further : run_of (n + 1) program start ≡ after k (run_of 1 program s)
  further = composed 1 program n start ∙ ap (continued 1 program) so_far

  pub run_on : (step_of program s).stop.cause ≡ 0 → run_of (n + 1) program start ≡ ran (step_of program s).state (k + 1) (stop 0)
  run_on h =
      further ∙ ap (after k) (run_step 0 program s (step_of program s) refl h ∙ ap (after 1) (run_none program (step_of program s).state))

  pub run_ends : ((step_of program s).stop.cause ≡ 0 → ⊥) → run_of (n + 1) program start ≡ ran s k (step_of program s).stop
  run_ends h =
      further ∙ ap (after k) (run_stop 0 program s (step_of program s) refl h) ∙ ap (λ (x : ℕ). ran s x (step_of program s).stop) (add-zero k)
