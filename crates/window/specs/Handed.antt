-- What a buyer holds, as the definitions have it: the core inside a machine, with the lent data.
use Rattle.std.specs.Prelude.{ℕ, List}
use Rattle.renaming.specs.Answer.{Answer as Next}
use Rattle.window.specs.Calls.{World, world_of, Made}
use Rattle.window.specs.Drain.{Drain}
use Rattle.window.specs.declared.Machine.{Machine}
use Rattle.window.specs.declared.Answer.{Answer}
use Rattle.window.specs.declared.Drained.{Drained}

abbrev pub world : Machine → List ℕ → World
world m memory = world_of m.core memory

abbrev pub answer : Answer → Next
answer a = record { core = a.machine.core; number = a.number }

abbrev pub made : Answer → List ℕ → Made
made a memory = record { world = world a.machine memory; number = a.number }

abbrev pub drained : Drained → List ℕ → Drain
drained d memory = record { world = world d.machine memory; calls = d.calls; number = d.number }
