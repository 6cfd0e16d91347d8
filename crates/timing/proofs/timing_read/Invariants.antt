use Prim.Native.Nat.{◌*◌, ◌≤◌}
use mathlib.Core.Path.{◌≡◌}
use Rattle.timing.specs.Timing.{weights}
use Rattle.timing.proofs.Sums.{heaviest}
use Rattle.timing.proofs.timing_read.Given as goal

abbrev pub invariant-loop : goal.invariant-loop
invariant-loop l = (l.sum ≤ l.counter * (4_096 * heaviest)) × (l.sum ≡ l.counter * weights l.words)
