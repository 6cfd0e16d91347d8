use Rattle.std.proofs.Common.{◌≡◌, ◌≤◌}
use Rattle.renaming.specs.Drop.{drop_to}
use Rattle.renaming.proofs.Core.drop_to.Given as goal

abbrev pub invariant-loop-self : goal.invariant-loop-self
invariant-loop-self l = record { few : l.self.count ≤ 64; same : drop_to l.kept l.self ≡ drop_to l.kept l.initial.self }

abbrev pub decreases-loop-self : goal.decreases-loop-self
decreases-loop-self l = l.self.count
