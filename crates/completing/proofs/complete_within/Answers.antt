use Rattle.std.proofs.Common.{ℕ, ◌∙◌, ap, sym}
use Rattle.refusals.specs.Numbers.{number}
use Rattle.refusals.proofs.Laws.{number_some, handed_on}
use Rattle.execution.specs.Execute.{Outcome}
use Rattle.execution.proofs.CauseLaws.{cause_some}
use Rattle.renaming.specs.Answer.{answer}
use Rattle.completing.proofs.CompleteLaws.{refused_entry, stops, refused_register, goes}
use Rattle.completing.proofs.complete_within.Goals as goal

-- the cause and the next address of an outcome
abbrev cause_of : Outcome → ℕ
cause_of o = o.stop.cause

pub returns-in_err-check_entry-clause-answer : goal.returns-in_err-check_entry-clause-answer
returns-in_err-check_entry-clause-answer c =
    let m = c.args.core.now in
    let refusal = c.in_err-check_entry.field-0.0 in
    ap (answer m) (handed_on c.from_residual.result refusal c.from_residual.ensures.1)
    ∙ refused_entry c.args.position m (number refusal) c.in_err-check_entry.ensures.number (number_some refusal)

pub returns-in-Err-clause-answer : goal.returns-in-Err-clause-answer
returns-in-Err-clause-answer c =
    let m = c.args.core.now in
    let is = rw c.in-Err.is at c.execute_at.ensures in
    let cause = c.in-Err.cause in
    rw (c.end.ensures, c.into.ensures, ap (λ (o : Outcome). o.stop) is)
    (stops c.args.position m c.in_ok-check_entry.ensures.number (λ z. cause_some cause (ap cause_of is ∙ z)))

pub returns-in_err-stole-in-Ok-clause-answer : goal.returns-in_err-stole-in-Ok-clause-answer
returns-in_err-stole-in-Ok-clause-answer c =
    let m = c.args.core.now in
    let is = rw c.in-Ok.is at c.execute_at.ensures in
    let refusal = c.in_err-stole-in-Ok.field-0.0 in
    let refused = c.in_err-stole-in-Ok.ensures.refused in
    rw (handed_on c.from_residual-in_err-stole-in-Ok.result refusal c.from_residual-in_err-stole-in-Ok.ensures.1, refused.1)
    (refused_register c.args.position m c.in_ok-check_entry.ensures.number (sym (ap cause_of is)) (number refusal) refused.0 (number_some refusal))

pub returns-in_ok-stole-in-Ok-clause-answer : goal.returns-in_ok-stole-in-Ok-clause-answer
returns-in_ok-stole-in-Ok-clause-answer c =
    let m = c.args.core.now in
    let is = rw c.in-Ok.is at c.execute_at.ensures in
    let given = c.in_ok-stole-in-Ok.ensures.given in
    rw (c.redirect.ensures, given.2, ap (λ (o : Outcome). o.next) is, ap (λ (o : Outcome). o.result) is)
    (goes c.args.position m c.in_ok-check_entry.ensures.number (sym (ap cause_of is)) given.0)
