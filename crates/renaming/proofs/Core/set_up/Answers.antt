use Rattle.std.proofs.Common.{◌∙◌, sym, ap, arith, refl}
use Rattle.refusals.specs.Numbers.{number}
use Rattle.ranges.specs.Sizes.{setup_of}
use Rattle.ranges.proofs.SizeLaws.{accepted_sizes}
use Rattle.ranges.specs.declared.Setup.{Setup}
use Rattle.renaming.specs.declared.Core.{Core}
use Rattle.refusals.proofs.Laws.{number_some, handed_on}
use Rattle.renaming.specs.SetUp.{set_up_answer, fresh_machine}
use Rattle.renaming.proofs.SetUpLaws.{answer_refused, answer_fresh}
use Rattle.renaming.proofs.Core.set_up.Goals as goal

pub returns-in_err-setup : goal.returns-in_err-setup
returns-in_err-setup c =
    let s = setup_of c.args.asked.window c.args.asked.registers c.args.asked.program c.args.asked.bytes in
    let refusal = c.in_err-setup.field-0.0 in
    ap set_up_answer (handed_on c.from_residual.result refusal c.from_residual.ensures.1)
    ∙ answer_refused s (number refusal) c.in_err-setup.ensures.0 (number_some refusal)

pub begin-requires-clause-few : goal.begin-requires-clause-few
begin-requires-clause-few c =
    let s = setup_of c.args.asked.window c.args.asked.registers c.args.asked.program c.args.asked.bytes in
    let z = accepted_sizes s (sym c.in_ok-setup.ensures.0) in
    omega (arith, z.window_to, ap (λ (t : Setup). t.window) c.in_ok-setup.ensures.1)

pub returns : goal.returns
returns c =
    let s = setup_of c.args.asked.window c.args.asked.registers c.args.asked.program c.args.asked.bytes in
    ap (λ (m : Core). record { core = m; number = 0 }) (c.begin.ensures ∙ ap fresh_machine c.in_ok-setup.ensures.1)
    ∙ answer_fresh s 0 c.in_ok-setup.ensures.0 refl
