use Prim.Native.Nat.{ℕ, ◌+◌, ◌*◌, ◌<◌}
use mathlib.Core.Path.{refl, sym, ap, ◌∙◌}
use native.Mathlib.Nat.{sub-zero}
use native.Mathlib.Omega.{arith}
use Rattle.refusals.specs.Numbers.{number}
use Rattle.refusals.proofs.Laws.{number_some, handed_on}
use Rattle.window.specs.Calls.{World, world_of, make}
use Rattle.window.specs.declared.Call.{Call}
use Rattle.window.proofs.LentLaws.{lent_count}
use Rattle.window.proofs.DrainLaws.{drain_over, drain_idle, drain_refused, drain_goes, drain_lent, drain_unlent}
use Rattle.window.proofs.draining.drain.Goals as goal

pub returns-in_err-lent : goal.returns-in_err-lent
returns-in_err-lent c =
    let a = c.args in
    let refusal = c.in_err-lent.field-0.0 in
    rw (handed_on c.from_residual.result refusal c.from_residual.ensures.1, c.requires)
    (drain_unlent a.program.now (world_of a.core.now a.«data».now) (number refusal) c.in_err-lent.ensures (number_some refusal))

pub overflow_mul-budget : goal.overflow_mul-budget
overflow_mul-budget c =
    let few = lent_count _ _ _ c.in_ok-lent.ensures in
    record { fits = omega arith }

pub loop-init : goal.loop-init
loop-init c =
    let a = c.args in
    record {
      counted = c.requires;
      same = rw (c.requires, sub-zero (3 * a.core.now.count)) (sym (drain_lent a.program.now (world_of a.core.now a.«data».now) (sym c.in_ok-lent.ensures)));
    }

pub returns-then-is_idle : goal.returns-then-is_idle
returns-then-is_idle c =
    let a = c.args in
    let l = c.loop in
    let below : l.calls < 3 * a.core.now.count = omega (arith, l.invariant.counted, c.loop-test.true) in
    sym l.invariant.same ∙ drain_idle (3 * a.core.now.count) l.calls a.program.now (world_of l.core l.«data») below (sym c.is_idle.ensures ∙ c.if-is_idle.true)

pub returns-in_err-make : goal.returns-in_err-make
returns-in_err-make c =
    let a = c.args in
    let l = c.loop in
    let w : World = world_of l.core l.«data» in
    let refusal = c.in_err-make.field-0.0 in
    let below : l.calls < 3 * a.core.now.count = omega (arith, l.invariant.counted, c.loop-test.true) in
    rw (handed_on c.from_residual-in_err-make.result refusal c.from_residual-in_err-make.ensures.1)
    (sym l.invariant.same
    ∙ drain_refused (3 * a.core.now.count) l.calls a.program.now w below (sym c.is_idle.ensures ∙ c.if-is_idle.false) _ (ap (λ (x : Call). make a.program.now x w) (sym c.needed.ensures) ∙ sym c.in_err-make.ensures) (number_some refusal))

pub loop-preserved : goal.loop-preserved
loop-preserved c =
    let a = c.args in
    let l = c.loop in
    let w : World = world_of l.core l.«data» in
    let below : l.calls < 3 * a.core.now.count = omega (arith, l.invariant.counted, c.loop-test.true) in
    record {
      counted = ap (λ (n : ℕ). n + 1) l.invariant.counted;
      same =
          drain_goes (3 * a.core.now.count) l.calls a.program.now w below (sym c.is_idle.ensures ∙ c.if-is_idle.false) _ (ap (λ (x : Call). make a.program.now x w) (sym c.needed.ensures) ∙ sym c.in_ok-make.ensures) refl
          ∙ l.invariant.same;
    }

pub returns : goal.returns
returns c =
    let a = c.args in
    let l = c.loop in
    sym l.invariant.same ∙ drain_over (3 * a.core.now.count) l.calls a.program.now (world_of l.core l.«data») (omega (arith, l.invariant.counted, c.loop-test.false))
