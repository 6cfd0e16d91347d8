use Prim.Native.Nat.{ℕ, ◌+◌, ◌*◌, ◌-◌}
use mathlib.Core.Path.{◌≡◌, sym, ap, ◌∙◌}
use native.Mathlib.Omega.{arith}
use borrow.Author.Rules.{rules}
use Rattle.refusals.specs.Numbers.{number_of}
use Rattle.reference.specs.Step.{state}
use Rattle.reference.specs.Run.{Run, after, run_of}
use Rattle.timing.specs.Timing.{answer}
use Rattle.timing.proofs.Calls.{call_goes_on, call_stops, over, same_refusal, timed_refused, timed_accepted}
use Rattle.timing.proofs.timing_run.Goals.{After-run-ran, After-loop}
use Rattle.timing.proofs.timing_run.Goals as goal

pub returns-in-Err : goal.returns-in-Err
returns-in-Err c =
    let a = c.args in
    let e = sym (ap number_of c.in-Err.is) ∙ c.check_lent.ensures in
    timed_refused a.calls a.program.now a.«data».now c.in-Err.refusal e ∙ rw (← c.from.ensures)

pub returns-then-stop-ne0 : goal.returns-then-stop-ne0
returns-then-stop-ne0 c =
    let a = c.args in
    let l = c.loop in
    let s = state l.values l.at l.«data» in
    let r = c.run-ran in
    let accepted = sym (ap number_of c.in_default.is) ∙ c.check_lent.ensures in
    let left : (a.calls - l.counter) * 65_535 ≡ 65_535 + (a.calls - (l.counter + 1)) * 65_535 = omega arith in
    timed_accepted a.calls a.program.now a.«data».now accepted
    ∙ ap (λ (x : Run). answer x 0) (sym l.invariant.2 ∙ ap (λ (x : ℕ). after l.steps (run_of x a.program.now s)) left)
    ∙ call_stops 65_535 ((a.calls - (l.counter + 1)) * 65_535) l.steps a.program.now s r.result _ (accepted ∙ sym (same_refusal a.program.now l.«data» a.«data».now l.invariant.1)) r.ensures c.if-stop-ne0.true

pub loop-preserved : goal.loop-preserved
loop-preserved c =
    let a = c.args in
    let l = c.loop in
    let s = state l.values l.at l.«data» in
    let r = c.run-ran in
    let accepted = sym (ap number_of c.in_default.is) ∙ c.check_lent.ensures in
    let left : (a.calls - l.counter) * 65_535 ≡ 65_535 + (a.calls - (l.counter + 1)) * 65_535 = omega arith in (
      omega arith,
      search rules,
      call_goes_on 65_535 ((a.calls - (l.counter + 1)) * 65_535) l.steps a.program.now s r.result _ (accepted ∙ sym (same_refusal a.program.now l.«data» a.«data».now l.invariant.1)) r.ensures c.if-stop-ne0.false
          ∙ ap (λ (x : ℕ). after l.steps (run_of x a.program.now s)) (sym left)
          ∙ l.invariant.2,
    )

pub returns : goal.returns
returns c =
    let a = c.args in
    let l = c.loop in
    let s = state l.values l.at l.«data» in
    let none : (a.calls - l.counter) * 65_535 ≡ 0 = omega arith in
    timed_accepted a.calls a.program.now a.«data».now (sym (ap number_of c.in_default.is) ∙ c.check_lent.ensures)
    ∙ ap (λ (x : Run). answer x 0) (sym l.invariant.2 ∙ ap (λ (x : ℕ). after l.steps (run_of x a.program.now s)) none ∙ over l.steps a.program.now s)
