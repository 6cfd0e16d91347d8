use Rattle.std.proofs.Common.{◌∙◌, sym, arith}
use Rattle.ranges.proofs.SizeLaws.{setup_sizes}
use Rattle.renaming.proofs.RangeLaws.{setup_refused, count_refused, swept}
use Rattle.renaming.proofs.Core.in_range.Goals as goal

pub returns-then-not-is_in_range : goal.returns-then-not-is_in_range
returns-then-not-is_in_range c = setup_refused c.args.self.now (sym c.is_in_range.ensures ∙ c.if-not-is_in_range.true)

pub returns-then-self : goal.returns-then-self
returns-then-self c = count_refused c.args.self.now (sym c.is_in_range.ensures ∙ c.if-not-is_in_range.false) c.if-self.true

pub tables_in_range-requires : goal.tables_in_range-requires
tables_in_range-requires c =
    let z = setup_sizes c.args.self.now.setup (sym c.is_in_range.ensures ∙ c.if-not-is_in_range.false) in
    record { window = z.window_to; registers = z.registers_to }

pub entries_in_range-requires : goal.entries_in_range-requires
entries_in_range-requires c =
    let z = setup_sizes c.args.self.now.setup (sym c.is_in_range.ensures ∙ c.if-not-is_in_range.false) in
    record { count = omega (arith, z.window_to, c.if-self.false); window = z.window_to }

pub returns : goal.returns
returns c =
    rw (c.entries_in_range.ensures, c.tables_in_range.ensures)
    (swept c.args.self.now (sym c.is_in_range.ensures ∙ c.if-not-is_in_range.false) c.if-self.false)
