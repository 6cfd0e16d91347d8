use Rattle.window.specs.Calls.{world_of}
use Prim.Native.Nat.{◌-◌}
use mathlib.Core.Path.{◌≡◌}
use Rattle.window.specs.Drain.{drain_from, drain_of}
use Rattle.window.proofs.draining.drain.Given as goal

abbrev pub invariant-loop : goal.invariant-loop
invariant-loop l =
    record {
      counted : l.calls ≡ l.counter;
      same : drain_from (l.budget - l.calls) l.program (world_of l.core l.«data») l.calls
          ≡ drain_of l.program (world_of l.initial.core l.initial.«data»);
    }
