use mathlib.Core.Path.{◌≡◌, ◌∙◌}
use borrow.Author.Rules.{rules}
use Rattle.std.proofs.Common.{Err}
use Rattle.reference.specs.Step.{state}
use Rattle.reference.proofs.StepLaws.{step_found, step_stopped}
use Rattle.reference.proofs.stepping.advance.Goals.{After-from_residual}
use Rattle.reference.proofs.stepping.advance.Goals as goal

-- `?` hands the cause on as it is
passed_on : (p : After-from_residual) → p.from_residual.result ≡ Err p.in_err-i.field-0.0
passed_on p = search rules

pub returns-in_err-i : goal.returns-in_err-i
returns-in_err-i c =
    let a = c.args in
    let s = state a.registers.now a.address a.«data».now in
    rw (passed_on c) (step_stopped a.program.now s c.in_err-i.field-0.0 c.in_err-i.ensures)

pub returns : goal.returns
returns c =
    let a = c.args in
    step_found a.program.now (state a.registers.now a.address a.«data».now) c.in_ok-i.i c.in_ok-i.ensures ∙ c.make.ensures
