use Rattle.std.proofs.Common.{◌≡◌}
use Rattle.renaming.specs.Setters.{with_entries}
use Rattle.renaming.specs.Changes.{change_first}
use Rattle.renaming.proofs.Core.change_all.Given as goal

abbrev pub invariant-loop-k : goal.invariant-loop-k
invariant-loop-k g l =
    l.self ≡ with_entries (change_first l.k (g.C.Change.becomes l.change) l.initial.self.entries) l.initial.self
