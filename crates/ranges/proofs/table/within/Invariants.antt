use Rattle.std.proofs.Common.{◌≡◌, ◌+◌, ◌-◌, ◌&&◌}
use Rattle.ranges.specs.Tables as Tables
use Rattle.ranges.proofs.table.within.Given as goal

abbrev pub invariant-loop-n : goal.invariant-loop-n
invariant-loop-n l = l.good && Tables.within l.limit (l.n-index + 1) (l.count - l.n-index) l.table ≡ Tables.within l.limit 1 l.count l.table
