use native.Mathlib.Omega.{arith}
use Rattle.tables.proofs.TableLaws.{store_zero, store_within, store_beyond}
use Rattle.tables.proofs.table.store_under.Goals as goal

pub returns-then-at : goal.returns-then-at
returns-then-at g c = store_within c.args.table.now c.args.n c.args.value c.if-at-ne0.true

pub returns-else-at : goal.returns-else-at
returns-else-at g c = store_beyond c.args.table.now c.args.n c.args.value c.if-at-ne0.true (omega arith)

pub returns-else-at-ne0 : goal.returns-else-at-ne0
returns-else-at-ne0 g c = store_zero c.args.table.now c.args.n c.args.value c.if-at-ne0.false
