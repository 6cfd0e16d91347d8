-- One call of the run after the other.
use Prim.Native.Nat.{ℕ, ◌+◌, ◌*◌}
use mathlib.Core.Path.{◌≡◌, sym, ap, ◌∙◌}
use mathlib.Core.List.{List}
use native.Mathlib.Nat.{add_assoc}
use borrow.Author.Tests.{eq-eqb, ne_eqb}
use lib.ListN.{length}
use Rattle.execution.specs.Execute.{stop}
use Rattle.reference.specs.Step.{State, state, lengths_refusal, length_refusal}
use Rattle.reference.specs.Run.{Run, ended, after, run_of, ran, RunAnswer, run_answer, ran_of}
use Rattle.reference.specs.declared.Ran.{Ran}
use Rattle.refusals.specs.Numbers.{number}
use Rattle.refusals.specs.declared.Refusal.{Refusal}
use Rattle.refusals.proofs.Laws.{number_some}
use Rattle.reference.proofs.RunLaws.{composed, run_accepted, after_ended}
use Rattle.timing.specs.Timing.{answer, start, timed_of}

abbrev given : Ran → List ℕ → RunAnswer
given r memory = record { answer = ran r; memory = memory }

-- a call of n steps where n + m are left
module _ (n m k : ℕ) (program : List ℕ) (s : State) (r : Ran) (memory : List ℕ) (accepted : 0 ≡ length_refusal program s.memory) (e : ran_of n program s ≡ given r memory) where
  here : run_answer (run_of n program s) 0 ≡ given r memory
  here = sym (run_accepted n program s accepted) ∙ e

  pub call_goes_on : r.stop.cause ≡ 0 → after (k + r.steps) (run_of m program (state r.registers r.address memory)) ≡ after k (run_of (n + m) program s)
  call_goes_on h =
      let R = run_of n program s in
      let zero : R.stop.cause ≡ 0 = ap (λ (x : RunAnswer). x.answer.stop.cause) here ∙ h in
      let whole : run_of (n + m) program s ≡ after R.steps (run_of m program R.state) = composed m program n s ∙ rw (eq-eqb R.stop.cause 0 zero) in
      ap (λ (x : RunAnswer). after (k + x.answer.steps) (run_of m program (state x.answer.registers x.answer.address x.memory))) (sym here)
      ∙ ap (λ (x : ℕ). record { state = (run_of m program R.state).state; steps = x; stop = (run_of m program R.state).stop }) (add_assoc k R.steps (run_of m program R.state).steps)
      ∙ ap (after k) (sym whole)

  pub call_stops : (r.stop.cause ≡ 0 → ⊥) → answer (after k (run_of (n + m) program s)) 0 ≡ record { answer = record { steps = k + r.steps; cause = r.stop.cause; refusal = 0 }; memory = memory }
  call_stops h =
      let R = run_of n program s in
      let other : R.stop.cause ≡ 0 → ⊥ = λ z. h (sym (ap (λ (x : RunAnswer). x.answer.stop.cause) here) ∙ z) in
      let whole : run_of (n + m) program s ≡ R = composed m program n s ∙ rw (ne_eqb R.stop.cause 0 other) in
      ap (λ (x : Run). answer (after k x) 0) whole
      ∙ ap (λ (x : RunAnswer). record { answer = record { steps = k + x.answer.steps; cause = x.answer.stop.cause; refusal = 0 }; memory = x.memory }) here

-- the refusal goes by the lengths
pub same_refusal : (program memory memory₀ : List ℕ) → length memory ≡ length memory₀ → length_refusal program memory ≡ length_refusal program memory₀
same_refusal program memory memory₀ e = ap (lengths_refusal (length program)) e

module _ (calls : ℕ) (program memory : List ℕ) where
  pub timed_refused : (refusal : Refusal) → number refusal ≡ length_refusal program memory → timed_of calls program memory ≡ answer (ended (start memory) (stop 0)) (number refusal)
  unfolding timed_of
  timed_refused refusal e =
      rw (ne_eqb (length_refusal program memory) 0 (λ z. number_some refusal (e ∙ z))) (ap (answer (ended (start memory) (stop 0))) (sym e))

  pub timed_accepted : 0 ≡ length_refusal program memory → timed_of calls program memory ≡ answer (run_of (calls * 65_535) program (start memory)) 0
  unfolding timed_of
  timed_accepted e = rw (eq-eqb (length_refusal program memory) 0 (sym e))

-- no step is left
pub over : (k : ℕ) (program : List ℕ) (s : State) → after k (run_of 0 program s) ≡ record { state = s; steps = k; stop = stop 0 }
unfolding run_of
over k program s = after_ended k s (stop 0)
