use Prim.Native.Nat.{◌-◌}
use mathlib.Core.Path.{◌≡◌}
use Rattle.formats.specs.Chain.{schedule_refusal}
use Rattle.formats.proofs.Marks.{marked}
use Rattle.formats.proofs.chain.check_chain.Given as goal

abbrev pub invariant-loop : goal.invariant-loop
invariant-loop l = marked (l.records - l.counter) l.schedule l.met l.index ≡ schedule_refusal l.schedule
