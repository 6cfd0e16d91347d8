use Prim.Native.Nat.{ℕ, ◌/◌, ◌≤◌}
use mathlib.Core.Path.{refl, sym, ap, ◌∙◌}
use mathlib.Core.Bool.{false}
use native.Mathlib.Nat.{sub-zero}
use native.Mathlib.Omega.{arith}
use lib.ListN.{length, replicate}
use Rattle.refusals.specs.Numbers.{number_of}
use Rattle.refusals.proofs.Laws.{number_some, handed_on}
use Rattle.formats.specs.Schedule.{record_length}
use Rattle.formats.proofs.HeadLaws.{at_most}
use Rattle.formats.proofs.Marks.{marked, unmarked}
use Rattle.formats.proofs.ChainLaws.{ended, beyond, again, refused, goes_on, turn, is_over}
use Rattle.formats.proofs.chain.check_chain.Goals as goal

pub loop-init : goal.loop-init
loop-init c =
    let s = c.args.schedule.now in
    let i = c.first_index-index.result in
    let room : length s / record_length ≤ 8_192 = omega (arith, at_most (length s) c.requires) in
    ap (λ (x : ℕ). marked x s (replicate 8_192 false) i) (sub-zero (length s / record_length)) ∙ unmarked s 8_192 i room c.first_index-index.ensures

pub returns-then-index-eq0 : goal.returns-then-index-eq0
returns-then-index-eq0 c =
    sym (turn _ _ _ _ _ c.loop-test.true ∙ ended _ _ _ _ c.if-index-eq0.true) ∙ c.loop.invariant

pub returns-then-records-index : goal.returns-then-records-index
returns-then-records-index c =
    sym (turn _ _ _ _ _ c.loop-test.true ∙ beyond _ _ _ _ c.if-index-eq0.false c.if-records-index.true) ∙ c.loop.invariant

pub bounds-met-index : goal.bounds-met-index
bounds-met-index c = omega (arith, at_most (length c.args.schedule.now) c.requires)

pub returns-then-met-index : goal.returns-then-met-index
returns-then-met-index c =
    sym (turn _ _ _ _ _ c.loop-test.true ∙ again _ _ _ _ c.if-index-eq0.false c.if-records-index.false c.if-met-index.true) ∙ c.loop.invariant

pub returns-in_err-check_record : goal.returns-in_err-check_record
returns-in_err-check_record c =
    let refusal = c.in_err-check_record.field-0.0 in
    ap number_of (handed_on c.from_residual.result refusal c.from_residual.ensures.1)
    ∙ sym (turn _ _ _ _ _ c.loop-test.true ∙ refused _ _ _ _ c.if-index-eq0.false c.if-records-index.false c.if-met-index.false _ c.record_at-r.ensures _ c.in_err-check_record.ensures (number_some refusal)) ∙ c.loop.invariant

pub loop-preserved : goal.loop-preserved
loop-preserved c =
    sym (turn _ _ _ _ _ c.loop-test.true ∙ goes_on _ _ _ _ c.if-index-eq0.false c.if-records-index.false c.if-met-index.false _ c.record_at-r.ensures 0 c.in_ok-check_record.ensures refl) ∙ c.loop.invariant

pub returns : goal.returns
returns c =
    sym (is_over _ _ _ _ _ c.loop-test.false) ∙ c.loop.invariant
