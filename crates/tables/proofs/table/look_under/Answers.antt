use Rattle.std.proofs.Common.{arith, ◌∙◌}
use Rattle.std.proofs.lemmas.List.{get_or_default}
use Rattle.tables.proofs.TableLaws.{under_zero, under_within, under_beyond}
use Rattle.tables.proofs.table.look_under.Goals as goal

pub returns-then-at-eq0 : goal.returns-then-at-eq0
returns-then-at-eq0 g c = under_zero c.args.none c.args.table.now c.args.n c.if-at-eq0.true

pub returns-then-at : goal.returns-then-at
returns-then-at g c = get_or_default c.args.table.now c.args.n _ c.args.none (omega arith) ∙ under_within c.args.none c.args.table.now c.args.n c.if-at-eq0.false

pub returns-else-at : goal.returns-else-at
returns-else-at g c = under_beyond c.args.none c.args.table.now c.args.n c.if-at-eq0.false (omega arith)
