use Prim.Native.Nat.{ℕ, ◌-◌}
use mathlib.Core.Path.{◌≡◌, refl, sym, ap, ◌∙◌}
use native.Mathlib.Nat.{sub-zero}
use native.Mathlib.Omega.{arith}
use Rattle.reference.specs.Step.{state}
use Rattle.reference.specs.Run.{Run, run_of, run_answer}
use Rattle.execution.proofs.CauseLaws.{cause_some}
use Rattle.reference.proofs.RunLaws.{after_zero, goes_on, stops_there, is_over}
use Rattle.reference.proofs.running.proceed.Goals as goal

pub loop-steps-init : goal.loop-steps-init
loop-steps-init c =
    let a = c.args in
    let s = state a.registers a.address a.«data».now in
    after_zero (run_of (a.n - 0) a.program.now s) ∙ ap (λ (x : ℕ). run_of x a.program.now s) (sub-zero a.n)

pub returns-in-Err : goal.returns-in-Err
returns-in-Err c =
    let l = c.loop-steps in
    rw c.into.ensures
    (ap (λ (x : Run). run_answer x 0)
    (sym l.invariant ∙ stops_there c.args.n l.steps c.args.program.now (state l.values l.at l.«data») c.loop-steps-test.true _ (rw c.in-Err.is at c.advance.ensures) (cause_some c.in-Err.cause)))

pub loop-steps-preserved : goal.loop-steps-preserved
loop-steps-preserved c =
    let l = c.loop-steps in
    goes_on c.args.n l.steps c.args.program.now (state l.values l.at l.«data») c.loop-steps-test.true _ (rw c.in-Ok.is at c.advance.ensures) refl ∙ l.invariant

pub returns : goal.returns
returns c =
    let l = c.loop-steps in
    let over : l.steps ≡ c.args.n = omega arith in
    ap (λ (x : Run). run_answer x 0) (sym l.invariant ∙ is_over c.args.n l.steps c.args.program.now (state l.values l.at l.«data») over)
