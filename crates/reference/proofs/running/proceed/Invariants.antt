use Prim.Native.Nat.{◌-◌}
use mathlib.Core.Path.{◌≡◌}
use Rattle.reference.specs.Step.{state}
use Rattle.reference.specs.Run.{after, run_of}
use Rattle.reference.proofs.running.proceed.Given as goal

abbrev pub invariant-loop-steps : goal.invariant-loop-steps
invariant-loop-steps l =
    after l.steps (run_of (l.n - l.steps) l.program (state l.values l.at l.data)) ≡ run_of l.n l.program (state l.fn.registers l.address l.initial.data)
