use Rattle.std.proofs.Common.{◌≡◌, ◌≤◌, rules, length, refl}
use Rattle.tables.specs.Entry.{empty_entry}
use Rattle.renaming.proofs.ChangeLaws.{length_mapped}
use Rattle.committing.proofs.CommitLaws.{moved_down}
use Rattle.committing.proofs.move_down.Goals as goal
use Rattle.committing.proofs.move_down.Goals.{After-default}

emptied : (p : After-default) → p.default.result ≡ empty_entry
emptied p = search rules

fits : (p : After-default) → p.args.core.now.count ≤ length p.args.core.now.entries
fits p = search (rules, length_mapped)

pub returns : goal.returns
returns c =
    let m = c.args.core.now in
    let p = (goal.at.returns c).After-default in
    rw (c.copy_within.ensures.after, emptied p, moved_down m.count m.entries c.requires.some (fits p)) refl
