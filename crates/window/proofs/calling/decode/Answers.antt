use Rattle.std.proofs.Common.{◌∙◌, sym}
use Rattle.decoding.specs.Decode.{decode_refusal, decoded, decode_of}
use Rattle.decoding.proofs.DecodeLaws.{decode_lent}
use Rattle.window.proofs.LentLaws.{lent_window, lent_handed}
use Rattle.window.proofs.calling.decode.Goals as goal

pub returns-in_err-lent : goal.returns-in_err-lent
unfolding decode_of
returns-in_err-lent c =
    let a = c.args in
    lent_handed a.core.now (decoded a.program.now a.guess a.core.now) (decode_refusal a.core.now) _ c.in_err-lent.field-0.0 c.from_residual.result c.from_residual.ensures.1 c.in_err-lent.ensures

pub decode_within-requires : goal.decode_within-requires
decode_within-requires c = lent_window _ _ _ c.in_ok-lent.ensures

pub returns : goal.returns
returns c =
    let a = c.args in
    c.decode_within.ensures ∙ decode_lent a.program.now a.«data».now a.guess a.core.now (sym c.in_ok-lent.ensures)
