use Rattle.std.proofs.Common.{◌∙◌, take, rules, tests}
use Rattle.std.proofs.lemmas.Iterator.{YieldsList-from_slice}
use Rattle.std.proofs.lemmas.Iterator.Search.{any_from_yields_List}
use Rattle.execution.specs.Roles.{stores}
use Rattle.tables.specs.declared.Entry.{Entry}
use Rattle.issuing.proofs.IssueLaws.{store_among}
use Rattle.issuing.proofs.store_below.Goals as goal

pub returns : goal.returns
returns c =
    let entries = c.args.core.now.entries in
    any_from_yields_List (λ (e : Entry). stores e.instruction) _ _ _ c.any.ensures.ran (YieldsList-from_slice (take c.args.n entries) cc) (λ x b q k. search (rules, tests))
    ∙ store_among c.args.n entries
