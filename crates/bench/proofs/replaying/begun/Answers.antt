use Rattle.std.proofs.Common.{◌∙◌, ap, sym}
use Rattle.refusals.proofs.Laws.{handed_on}
use Rattle.refusals.specs.Numbers.{number_of}
use Rattle.bench.proofs.RefusalLaws.{Passed, head_fits, set_stop, chain_last, begun_ready}
use Rattle.bench.proofs.replaying.begun.Goals.{After-registers_in}
use Rattle.bench.proofs.replaying.begun.Goals as goal

passed : (c : After-registers_in) → Passed c.args.program.now c.args.«data».now c.args.schedule.now c.args.size c.window_in.result c.registers_in.result
passed c =
    record { lengths = c.in_ok-check_lent.ensures; right = c.if-size-ne-RESULT_LENGTH.false; head = c.in_ok-check_head.ensures; window_is = c.window_in.ensures; registers_are = c.registers_in.ensures }

pub returns-in_err-setup-clause-number : goal.returns-in_err-setup-clause-number
returns-in_err-setup-clause-number c =
    let refusal = c.in_err-setup.field-0.0 in
    ap number_of (handed_on c.from_residual-in_err-setup.result refusal c.from_residual-in_err-setup.ensures.1)
    ∙ set_stop (passed (goal.at.returns-in_err-setup-clause-number c).After-registers_in) refusal c.in_err-setup.ensures.0

pub check_chain-requires : goal.check_chain-requires
check_chain-requires c = head_fits c.args.schedule.now (sym c.in_ok-check_head.ensures)

pub returns-in_err-check_chain-clause-number : goal.returns-in_err-check_chain-clause-number
returns-in_err-check_chain-clause-number c =
    let refusal = c.in_err-check_chain.field-0.0 in
    ap number_of (handed_on c.from_residual-in_err-check_chain.result refusal c.from_residual-in_err-check_chain.ensures.1)
    ∙ chain_last (passed (goal.at.returns-in_err-check_chain-clause-number c).After-registers_in) c.in_ok-setup.ensures.0 _ c.in_err-check_chain.ensures

pub returns-clause-number : goal.returns-clause-number
returns-clause-number c = chain_last (passed (goal.at.returns-clause-number c).After-registers_in) c.in_ok-setup.ensures.0 _ c.in_ok-check_chain.ensures

pub returns-clause-ready : goal.returns-clause-ready
returns-clause-ready c = begun_ready (passed (goal.at.returns-clause-ready c).After-registers_in) c.in_ok-setup.ensures.0 _ c.in_ok-setup.ensures.1 c.in_ok-check_chain.ensures
