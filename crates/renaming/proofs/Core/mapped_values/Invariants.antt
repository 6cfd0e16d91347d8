use Rattle.std.proofs.Common.{◌≡◌, ◌<◌, ℕ, get_or, length}
use Rattle.renaming.specs.Report.{value_in}
use Rattle.renaming.proofs.Core.mapped_values.Given as goal

abbrev pub invariant-loop-r : goal.invariant-loop-r
invariant-loop-r l = record { long : length l.registers ≡ 32; filled : (j : ℕ) → j < l.r → get_or l.registers j 0 ≡ value_in l.self j }
