use Rattle.std.proofs.Common.{◌∙◌, sym}
use Rattle.renaming.proofs.RangeLaws.{in_range_count}
use Rattle.window.proofs.Machine.report.Goals as goal

pub committed_values-requires : goal.committed_values-requires
committed_values-requires c = in_range_count c.args.self.core (sym c.in_range.ensures ∙ c.if-not-in_range.false)
