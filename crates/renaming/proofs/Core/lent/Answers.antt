use Rattle.std.proofs.Common.{◌∙◌, sym, ap, not}
use Rattle.renaming.proofs.RefusalLaws.{lent_range, lent_lengths, lent_none}
use Rattle.renaming.proofs.Core.lent.Goals as goal

pub returns-then-not-in_range : goal.returns-then-not-in_range
returns-then-not-in_range c =
    lent_range c.args.self.now c.args.program.now c.args.«data».now (sym c.in_range.ensures ∙ c.if-not-in_range.true)

pub returns-then-not-same : goal.returns-then-not-same
returns-then-not-same c =
    lent_lengths c.args.self.now c.args.program.now c.args.«data».now (sym c.in_range.ensures ∙ c.if-not-in_range.false) (ap not c.if-not-same.true)

pub returns : goal.returns
returns c =
    lent_none c.args.self.now c.args.program.now c.args.«data».now (sym c.in_range.ensures ∙ c.if-not-in_range.false) (ap not c.if-not-same.false)
