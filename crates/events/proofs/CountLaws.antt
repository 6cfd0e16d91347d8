-- What the code of the counts sees of an accepted call settles what the definitions count.
use mathlib.Core.Path.{◌≡◌}
use mathlib.Core.Bool.{Bool}
use Rattle.isa.specs.Reads.{choose}
use Rattle.renaming.specs.declared.Core.{Core}
use Rattle.window.specs.Calls.{stolen}
use Rattle.window.specs.declared.Call.{Call}
use Rattle.window.specs.declared.Call.TheVariants.{Decode, Issue, Complete, Commit}
use Rattle.events.specs.declared.Counts.{Counts}
use Rattle.events.specs.Counts.{accepting}
use Rattle.events.specs.Numbers.{accepting_by}

pub accepting_is : (call : Call) (before after : Core) (stole : Bool) (c : Counts) → choose stole 1 0 ≡ stolen call before → accepting_by call before.count stole after c ≡ accepting call before after c
accepting_is (Decode guess) before after stole c e = rw e
accepting_is (Issue position) before after stole c e = rw e
accepting_is (Complete position) before after stole c e = rw e
accepting_is Commit before after stole c e = rw e
