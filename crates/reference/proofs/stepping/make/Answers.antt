use mathlib.Core.Path.{◌≡◌, refl, ap, ◌∙◌}
use mir.Syntax.{w32}
use mir.Val.{of_z}
use mir.ValLaws.{to_z-of_z}
use borrow.Author.Rules.{rules}
use Rattle.std.proofs.Common.{Err}
use Rattle.execution.specs.Causes.{cause_number}
use Rattle.execution.specs.Execute.{goes, stops}
use Rattle.execution.proofs.CauseLaws.{cause_some}
use Rattle.reference.specs.Step.{state, first_source, second_source, read_register}
use Rattle.reference.proofs.StepLaws.{step_made, step_not_made}
use Rattle.reference.proofs.stepping.make.Goals.{After-perform, After-from_residual}
use Rattle.reference.proofs.stepping.make.Goals as goal

-- the values found on the way, in the definitions' terms
module _ (p : After-perform) where
  constant_is : p.to_word-constant.result ≡ of_z w32 p.args.i.constant
  constant_is = p.to_word-constant.ensures ∙ ap (of_z w32) (to_z-of_z w32 p.args.i.constant (search rules))

  first_is : p.read-first.result ≡ read_register p.args.registers.now (first_source p.args.i)
  first_is = p.read-first.ensures ∙ ap (read_register p.args.registers.now) p.first_source.ensures

  operand_is : p.read-operand.result ≡ read_register p.args.registers.now (second_source p.args.i)
  operand_is = p.read-operand.ensures ∙ ap (read_register p.args.registers.now) p.second_source.ensures

-- `?` hands the cause on as it is
passed_on : (p : After-from_residual) → p.from_residual.result ≡ Err p.in_err-executed.field-0.0
passed_on p = search rules

pub returns-in_err-executed : goal.returns-in_err-executed
returns-in_err-executed c =
    let p = (goal.at.returns-in_err-executed c).After-perform in
    let a = c.args in
    let cause = c.in_err-executed.field-0.0 in
    rw (passed_on c)
    (step_not_made a.i (state a.registers.now a.address a.«data».now) _ _ _ _ _ _ (stops a.address (cause_number cause))
    c.action-action.ensures.listed (constant_is p) (first_is p) (operand_is p) c.add-at.ensures c.second_by-second.ensures c.in_err-executed.ensures (cause_some cause))

pub returns : goal.returns
returns c =
    let p = (goal.at.returns c).After-perform in
    let a = c.args in
    let e = c.in_ok-executed.executed in
    step_made a.i (state a.registers.now a.address a.«data».now) _ _ _ _ _ _ (goes e.result e.next)
    c.action-action.ensures.listed (constant_is p) (first_is p) (operand_is p) c.add-at.ensures c.second_by-second.ensures c.in_ok-executed.ensures refl _ _
    (rw c.destination_of.ensures at c.write.ensures) c.store_by.ensures
