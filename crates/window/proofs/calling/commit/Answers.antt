use Rattle.std.proofs.Common.{◌∙◌, sym}
use Rattle.refusals.specs.Numbers.{number}
use Rattle.refusals.proofs.Laws.{number_some, handed_on}
use Rattle.committing.specs.Commit.{commit_refusal, commit_of}
use Rattle.committing.proofs.CommitLaws.{commit_refused, commit_lent}
use Rattle.window.proofs.LentLaws.{first_refused, lent_count}
use Rattle.window.proofs.calling.commit.Goals as goal

pub returns-in_err-lent : goal.returns-in_err-lent
unfolding commit_of
returns-in_err-lent c =
    let a = c.args in
    let refusal = c.in_err-lent.field-0.0 in
    rw (handed_on c.from_residual.result refusal c.from_residual.ensures.1)
    (commit_refused a.«data».now a.core.now _ (number refusal) (first_refused _ (commit_refusal a.core.now) (number refusal) c.in_err-lent.ensures (number_some refusal)) (number_some refusal))

pub commit_within-requires : goal.commit_within-requires
commit_within-requires c = lent_count _ _ _ c.in_ok-lent.ensures

pub returns : goal.returns
returns c =
    let a = c.args in
    commit_lent a.program.now a.«data».now a.core.now (sym c.in_ok-lent.ensures) ∙ c.commit_within.ensures
