use Rattle.std.proofs.Common.{◌∙◌, sym, ap}
use Rattle.refusals.proofs.Laws.{handed_on}
use Rattle.renaming.specs.Answer.{answer}
use Rattle.completing.specs.Complete.{complete_refusal, completed, complete_of}
use Rattle.completing.proofs.CompleteLaws.{complete_lent}
use Rattle.window.proofs.LentLaws.{lent_count, lent_handed}
use Rattle.window.proofs.calling.complete.Goals as goal

pub returns-in_err-lent : goal.returns-in_err-lent
unfolding complete_of
returns-in_err-lent c =
    let a = c.args in
    lent_handed a.core.now (completed a.position a.core.now) (complete_refusal a.position a.core.now) _ c.in_err-lent.field-0.0 c.from_residual.result c.from_residual.ensures.1 c.in_err-lent.ensures

pub complete_within-requires : goal.complete_within-requires
complete_within-requires c = lent_count _ _ _ c.in_ok-lent.ensures

pub returns-in_err-complete_within : goal.returns-in_err-complete_within
returns-in_err-complete_within c =
    let a = c.args in
    ap (answer c.complete_within.new.core) (handed_on c.from_residual-in_err-complete_within.result c.in_err-complete_within.field-0.0 c.from_residual-in_err-complete_within.ensures.1)
    ∙ c.in_err-complete_within.ensures.answer
    ∙ complete_lent a.program.now a.«data».now a.position a.core.now (sym c.in_ok-lent.ensures)

pub returns : goal.returns
returns c =
    let a = c.args in
    c.in_ok-complete_within.ensures.answer ∙ complete_lent a.program.now a.«data».now a.position a.core.now (sym c.in_ok-lent.ensures)
