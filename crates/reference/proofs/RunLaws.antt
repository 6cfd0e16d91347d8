-- A run, one step after the other.
use Prim.Native.Nat.{ℕ, zero, suc, ◌+◌, ◌-◌, ◌<◌}
use mathlib.Core.Path.{◌≡◌, refl, sym, ap, ◌∙◌}
use mathlib.Core.Bool.{Bool, true, false}
use mathlib.Core.List.{List}
use native.Mathlib.Nat.{add-zero, zero-add, suc-add, add_assoc}
use native.Mathlib.Omega.{arith}
use borrow.Author.Tests.{eq-eqb, ne_eqb, eqb-true, eqb-false}
use lib.Dec.{eqb}
use Rattle.isa.specs.Reads.{choose}
use Rattle.execution.specs.Execute.{stop}
use Rattle.reference.specs.Step.{State, Step, step_of, length_refusal}
use Rattle.reference.specs.Run.{Run, ended, after, run_of, run_answer, ran_of}
use Rattle.reference.specs.Statement.{continued}
use Rattle.execution.specs.declared.Stop.{Stop}
use Rattle.refusals.specs.Numbers.{number}
use Rattle.refusals.specs.declared.Refusal.{Refusal}
use Rattle.reference.proofs.StepLaws.{step_kept}
use Rattle.refusals.proofs.Laws.{number_some}

after_after : (k m : ℕ) (r : Run) → after (k + m) r ≡ after k (after m r)
after_after k m r = ap (λ (n : ℕ). record { state = r.state; steps = n; stop = r.stop }) (add_assoc k m r.steps)

pub after_ended : (k : ℕ) (s : State) (why : Stop) → after k (ended s why) ≡ record { state = s; steps = k; stop = why }
after_ended k s why = ap (λ (n : ℕ). record { state = s; steps = n; stop = why }) (add-zero k)

-- one step of a run
module _ (n : ℕ) (program : List ℕ) (s : State) (r : Step) (e : step_of program s ≡ r) where
  pub run_step : r.stop.cause ≡ 0 → run_of (suc n) program s ≡ after 1 (run_of n program r.state)
  unfolding run_of
  run_step h =
      rw (eq-eqb (step_of program s).stop.cause 0 (ap (λ (x : Step). x.stop.cause) e ∙ h)) (ap (λ (x : Step). after 1 (run_of n program x.state)) e)

  pub run_stop : (r.stop.cause ≡ 0 → ⊥) → run_of (suc n) program s ≡ ended s r.stop
  unfolding run_of
  run_stop h =
      rw (ne_eqb (step_of program s).stop.cause 0 (λ z. h (sym (ap (λ (x : Step). x.stop.cause) e) ∙ z))) (ap (λ (x : Step). ended s x.stop) e)

-- the same in the middle of a run of n steps, k of them made
module _ (n k : ℕ) (program : List ℕ) (s : State) where
  pub goes_on : k < n → (r : Step) → step_of program s ≡ r → r.stop.cause ≡ 0 → after (k + 1) (run_of (n - (k + 1)) program r.state) ≡ after k (run_of (n - k) program s)
  goes_on l r e h =
      let m : n - k ≡ suc (n - (k + 1)) = omega arith in
      after_after k 1 (run_of (n - (k + 1)) program r.state) ∙ ap (after k) (sym (run_step (n - (k + 1)) program s r e h) ∙ ap (λ (x : ℕ). run_of x program s) (sym m))

  pub stops_there : k < n → (r : Step) → step_of program s ≡ r → (r.stop.cause ≡ 0 → ⊥) → after k (run_of (n - k) program s) ≡ record { state = r.state; steps = k; stop = r.stop }
  stops_there l r e h =
      let m : n - k ≡ suc (n - (k + 1)) = omega arith in
      let kept : s ≡ r.state = sym (step_kept program s (λ z. h (sym (ap (λ (x : Step). x.stop.cause) e) ∙ z))) ∙ ap (λ (x : Step). x.state) e in
      ap (after k) (ap (λ (x : ℕ). run_of x program s) m ∙ run_stop (n - (k + 1)) program s r e h) ∙ after_ended k s r.stop
      ∙ ap (λ (x : State). record { state = x; steps = k; stop = r.stop }) kept

  pub is_over : k ≡ n → after k (run_of (n - k) program s) ≡ record { state = s; steps = n; stop = stop 0 }
  unfolding run_of
  is_over e =
      let m : n - k ≡ 0 = omega arith in
      ap (λ (x : ℕ). after k (run_of x program s)) m ∙ after_ended k s (stop 0) ∙ ap (λ (x : ℕ). record { state = s; steps = x; stop = stop 0 }) e

-- the exported run, by the refusal
module _ (n : ℕ) (program : List ℕ) (s : State) where
  pub run_refused : (refusal : Refusal) → number refusal ≡ length_refusal program s.memory → ran_of n program s ≡ run_answer (ended s (stop 0)) (number refusal)
  unfolding ran_of
  run_refused refusal e =
      rw (ne_eqb (length_refusal program s.memory) 0 (λ z. number_some refusal (e ∙ z))) (ap (run_answer (ended s (stop 0))) (sym e))

  pub run_accepted : 0 ≡ length_refusal program s.memory → ran_of n program s ≡ run_answer (run_of n program s) 0
  unfolding ran_of
  run_accepted e = rw (eq-eqb (length_refusal program s.memory) 0 (sym e))

-- n + m steps are n steps, then m
continued_after : (m k : ℕ) (program : List ℕ) (r : Run) → continued m program (after k r) ≡ after k (continued m program r)
continued_after m k program r = at (eqb r.stop.cause 0)
  where
    at : (b : Bool) → choose b (after (k + r.steps) (run_of m program r.state)) (after k r) ≡ after k (choose b (after r.steps (run_of m program r.state)) r)
    at true = after_after k r.steps (run_of m program r.state)
    at false = refl

pub after_zero : (r : Run) → after 0 r ≡ r
after_zero r = ap (λ (n : ℕ). record { state = r.state; steps = n; stop = r.stop }) (zero-add r.steps)

continued_stopped : (m : ℕ) (program : List ℕ) (s : State) (why : Stop) → (why.cause ≡ 0 → ⊥) → continued m program (ended s why) ≡ ended s why
continued_stopped m program s why h = rw (ne_eqb why.cause 0 h)

module _ (m : ℕ) (program : List ℕ) where
  composed_at : (n : ℕ) (s : State) (b : Bool) → eqb (step_of program s).stop.cause 0 ≡ b
      → run_of (n + m) program (step_of program s).state ≡ continued m program (run_of n program (step_of program s).state)
      → run_of (suc (n + m)) program s ≡ continued m program (run_of (suc n) program s)
  composed_at n s true e rest =
      let r = step_of program s in
      let h = eqb-true r.stop.cause 0 e in
      run_step (n + m) program s r refl h
      ∙ ap (after 1) rest
      ∙ sym (continued_after m 1 program (run_of n program r.state))
      ∙ ap (continued m program) (sym (run_step n program s r refl h))
  composed_at n s false e rest =
      let r = step_of program s in
      let h = eqb-false r.stop.cause 0 e in
      run_stop (n + m) program s r refl h
      ∙ sym (continued_stopped m program s r.stop h)
      ∙ ap (continued m program) (sym (run_stop n program s r refl h))

  pub composed : (n : ℕ) (s : State) → run_of (n + m) program s ≡ continued m program (run_of n program s)
  unfolding run_of
  composed zero s = ap (λ (x : ℕ). run_of x program s) (zero-add m) ∙ sym (after_zero (run_of m program s))
  composed (suc n) s =
      ap (λ (x : ℕ). run_of x program s) (suc-add n m)
      ∙ composed_at n s (eqb (step_of program s).stop.cause 0) refl (composed n (step_of program s).state)
