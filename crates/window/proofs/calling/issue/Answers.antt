use Rattle.std.proofs.Common.{◌∙◌, sym}
use Rattle.issuing.specs.Issue.{issue_refusal, issued, issue_of}
use Rattle.issuing.proofs.IssueLaws.{issue_lent}
use Rattle.window.proofs.LentLaws.{lent_count, lent_handed}
use Rattle.window.proofs.calling.issue.Goals as goal

pub returns-in_err-lent : goal.returns-in_err-lent
unfolding issue_of
returns-in_err-lent c =
    let a = c.args in
    lent_handed a.core.now (issued a.«data».now a.position a.core.now) (issue_refusal a.position a.core.now) _ c.in_err-lent.field-0.0 c.from_residual.result c.from_residual.ensures.1 c.in_err-lent.ensures

pub issue_within-requires : goal.issue_within-requires
issue_within-requires c = lent_count _ _ _ c.in_ok-lent.ensures

pub returns : goal.returns
returns c =
    let a = c.args in
    c.issue_within.ensures ∙ issue_lent a.program.now a.«data».now a.position a.core.now (sym c.in_ok-lent.ensures)
