use Prim.Native.Nat.{◌*◌, ◌-◌, ◌≤◌}
use mathlib.Core.Path.{◌≡◌}
use lib.ListN.{length}
use Rattle.reference.specs.Step.{state}
use Rattle.reference.specs.Run.{after, run_of}
use Rattle.timing.specs.Timing.{start}
use Rattle.timing.proofs.timing_run.Given as goal

abbrev pub invariant-loop : goal.invariant-loop
invariant-loop l =
    (l.steps ≤ l.counter * 65_535)
    × (length l.data ≡ length l.initial.data)
    × (after l.steps (run_of ((l.calls - l.counter) * 65_535) l.program (state l.values l.at l.data)) ≡ run_of (l.calls * 65_535) l.program (start l.initial.data))
