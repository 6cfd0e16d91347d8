use Rattle.std.proofs.Common.{◌∙◌, take, rules, tests, arith}
use Rattle.std.proofs.lemmas.Iterator.{YieldsList-from_slice}
use Rattle.std.proofs.lemmas.Iterator.Search.{all_from_yields_List}
use Rattle.tables.specs.Entry.{empty_entry}
use Rattle.ranges.specs.Entries.{entry_in_range}
use Rattle.ranges.proofs.TableLaws.{every_of}
use Rattle.renaming.proofs.Core.entries_in_range.Goals as goal

pub returns : goal.returns
returns c =
    let m = c.args.self.now in
    all_from_yields_List (entry_in_range m.setup) _ _ _ c.all.ensures.ran (YieldsList-from_slice (take m.count m.entries) cc) (λ x b q k. search (rules, tests))
    ∙ every_of (entry_in_range m.setup) empty_entry m.count 0 m.entries (omega (arith, c.requires.count))
