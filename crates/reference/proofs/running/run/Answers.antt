use mathlib.Core.Path.{sym, ap, ◌∙◌}
use Rattle.refusals.specs.Numbers.{number_of}
use Rattle.reference.specs.Step.{state}
use Rattle.reference.proofs.RunLaws.{run_refused, run_accepted}
use Rattle.reference.proofs.running.run.Goals as goal

pub returns-in-Err : goal.returns-in-Err
returns-in-Err c =
    let a = c.args in
    run_refused a.n a.program.now (state a.registers a.address a.«data».now) c.in-Err.refusal (sym (ap number_of c.in-Err.is) ∙ c.check_lent.ensures)

pub returns : goal.returns
returns c =
    let a = c.args in
    run_accepted a.n a.program.now (state a.registers a.address a.«data».now) (sym (ap number_of c.in_default.is) ∙ c.check_lent.ensures) ∙ c.proceed.ensures
