use Rattle.window.specs.Calls.{world_of}
use Rattle.std.proofs.Common.{◌∙◌, sym}
use Rattle.refusals.specs.Numbers.{number}
use Rattle.refusals.proofs.Laws.{number_some}
use Rattle.window.proofs.LentLaws.{lent_window, lent_count}
use Rattle.window.proofs.MakeLaws.{made_handed, make_lent, make_refused}
use Rattle.window.proofs.making.make.Goals as goal

pub returns-in_err-lent : goal.returns-in_err-lent
returns-in_err-lent c =
    let a = c.args in
    let refusal = c.in_err-lent.field-0.0 in
    made_handed a.core.now a.«data».now c.from_residual.result refusal _ c.from_residual.ensures.1
    (make_refused a.program.now a.call (world_of a.core.now a.«data».now) (number refusal) c.in_err-lent.ensures (number_some refusal))

pub make_within-requires-clause-window : goal.make_within-requires-clause-window
make_within-requires-clause-window c = lent_window _ _ _ c.in_ok-lent.ensures

pub make_within-requires-clause-count : goal.make_within-requires-clause-count
make_within-requires-clause-count c = lent_count _ _ _ c.in_ok-lent.ensures

pub returns-in_err-make_within : goal.returns-in_err-make_within
returns-in_err-make_within c =
    let a = c.args in
    made_handed _ _ c.from_residual-in_err-make_within.result c.in_err-make_within.field-0.0 _ c.from_residual-in_err-make_within.ensures.1
    (c.in_err-make_within.ensures.made ∙ sym (make_lent a.program.now a.call (world_of a.core.now a.«data».now) (sym c.in_ok-lent.ensures)))

pub returns : goal.returns
returns c =
    let a = c.args in
    c.in_ok-make_within.ensures.made ∙ sym (make_lent a.program.now a.call (world_of a.core.now a.«data».now) (sym c.in_ok-lent.ensures))
