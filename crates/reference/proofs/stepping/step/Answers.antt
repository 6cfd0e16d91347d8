use mathlib.Core.Path.{sym, ap, ◌∙◌}
use Rattle.refusals.specs.Numbers.{number_of}
use Rattle.reference.specs.Step.{Step, state, step_answer}
use Rattle.reference.proofs.StepLaws.{step_refused, step_accepted}
use Rattle.reference.proofs.stepping.step.Goals as goal

pub returns-in-Err : goal.returns-in-Err
returns-in-Err c =
    let a = c.args in
    step_refused a.program.now (state a.registers a.address a.«data».now) c.in-Err.refusal (sym (ap number_of c.in-Err.is) ∙ c.check_lent.ensures)

pub returns-in-Ok : goal.returns-in-Ok
returns-in-Ok c =
    let a = c.args in
    step_accepted a.program.now (state a.registers a.address a.«data».now) (sym (ap number_of c.in_default.is) ∙ c.check_lent.ensures)
    ∙ ap (λ (x : Step). step_answer x 0) (rw c.in-Ok.is at c.advance.ensures)

pub returns-in-Err-advance : goal.returns-in-Err-advance
returns-in-Err-advance c =
    let a = c.args in
    rw c.into.ensures
    (step_accepted a.program.now (state a.registers a.address a.«data».now) (sym (ap number_of c.in_default.is) ∙ c.check_lent.ensures)
    ∙ ap (λ (x : Step). step_answer x 0) (rw c.in-Err-advance.is at c.advance.ensures))
