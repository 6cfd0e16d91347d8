use mathlib.Core.Path.{◌≡◌, ap, sym, ◌∙◌}
use mathlib.Core.Logic.{⊎_elim}
use Rattle.refusals.specs.Numbers.{number, number_of}
use Rattle.refusals.proofs.Laws.{handed_on}
use Rattle.formats.proofs.ChainLaws.{kind_refused, unwanted_in, field_refused, record_accepted}
use Rattle.formats.proofs.chain.check_record.Goals as goal
use Rattle.formats.proofs.chain.check_record.Goals.{in-Decode, in-Issue, in-Commit, Joined-branch-2}

pub returns-in_err-try_from : goal.returns-in_err-try_from
returns-in_err-try_from c =
    let e = c.in_err-try_from.ensures in
    ap number_of (handed_on c.from_residual.result c.in_err-try_from.field-0.0 c.from_residual.ensures.1) ∙ ap number e.0 ∙ kind_refused c.args.r e.1

-- what the match found
module _ (p : Joined-branch-2) where
  found : p.match-branch-2.unwanted ≡ unwanted_in p.args.r p.in_ok-try_from.field-0
  found =
      elim p.match-branch-2.branch [
        | in-Decode w ↦ w.unwanted-is ∙ sym (ap (unwanted_in p.args.r) w.in-Decode.is)
        | in-Issue w ↦ w.unwanted-is ∙ ⊎_elim (λ e. sym (ap (unwanted_in p.args.r) e)) (λ e. sym (ap (unwanted_in p.args.r) e)) w.in-Issue.is
        | in-Commit w ↦ w.unwanted-is ∙ sym (ap (unwanted_in p.args.r) w.in-Commit.is)
      ]

pub returns-then-unwanted : goal.returns-then-unwanted
returns-then-unwanted c =
    let p = (goal.at.returns-then-unwanted c).Joined-branch-2 in
    field_refused c.args.r c.in_ok-try_from.field-0 c.in_ok-try_from.ensures (sym (found p) ∙ c.if-unwanted.true)

pub returns : goal.returns
returns c =
    let p = (goal.at.returns c).Joined-branch-2 in
    record_accepted c.args.r c.in_ok-try_from.field-0 c.in_ok-try_from.ensures (sym (found p) ∙ c.if-unwanted.false)
