use Rattle.std.proofs.Common.{◌∙◌, sym, ap, arith, refl}
use Rattle.refusals.specs.Numbers.{number}
use Rattle.refusals.proofs.Laws.{number_some}
use Rattle.ranges.specs.Sizes.{setup_of}
use Rattle.ranges.proofs.SizeLaws.{accepted_sizes}
use Rattle.ranges.specs.declared.Setup.{Setup}
use Rattle.renaming.specs.Core.{zero_machine}
use Rattle.renaming.specs.declared.Core.{Core}
use Rattle.renaming.specs.SetUp.{fresh_machine}
use Rattle.renaming.proofs.SetUpLaws.{answer_refused, answer_fresh}
use Rattle.window.proofs.Machine.set_up.Goals as goal

pub begin-requires-clause-few : goal.begin-requires-clause-few
begin-requires-clause-few c =
    let s = setup_of c.args.window c.args.registers c.args.program c.args.bytes in
    let z = accepted_sizes s (sym c.in-Ok.ensures.0) in
    omega (arith, z.window_to, ap (λ (t : Setup). t.window) c.in-Ok.ensures.1)

pub returns-in-Ok : goal.returns-in-Ok
returns-in-Ok c =
    let s = setup_of c.args.window c.args.registers c.args.program c.args.bytes in
    ap (λ (m : Core). record { core = m; number = 0 }) (c.begin.ensures ∙ ap fresh_machine c.in-Ok.ensures.1)
    ∙ answer_fresh s 0 c.in-Ok.ensures.0 refl

pub returns-in-Err : goal.returns-in-Err
returns-in-Err c =
    let s = setup_of c.args.window c.args.registers c.args.program c.args.bytes in
    let refusal = c.in-Err.refusal in
    ap (λ (m : Core). record { core = m; number = c.into.result }) c.zeros.ensures
    ∙ ap (λ n. record { core = zero_machine; number = n }) c.into.ensures
    ∙ answer_refused s (number refusal) c.in-Err.ensures.0 (number_some refusal)
