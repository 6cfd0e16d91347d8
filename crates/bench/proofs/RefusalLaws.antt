-- Replay's refusals in turn.
use Prim.Native.Nat.{ℕ}
use mathlib.Core.Path.{◌≡◌, refl, sym, ap, ◌∙◌}
use mathlib.Core.Bool.{Bool, true, false, not}
use mathlib.Core.List.{List, [], ◌∷◌}
use borrow.Author.Tests.{eqb-true, eq-eqb, ne_eqb, not-false}
use lib.Dec.{eqb}
use lib.ListN.{length}
use Rattle.isa.specs.Reads.{choose}
use Rattle.reference.specs.Step.{when, first, length_refusal}
use Rattle.refusals.specs.Numbers.{number}
use Rattle.refusals.specs.declared.Refusal.{Refusal}
use Rattle.refusals.proofs.Laws.{number_some}
use Rattle.ranges.specs.Sizes.{setup_of, set_up_refusal}
use Rattle.ranges.specs.declared.Setup.{Setup}
use Rattle.renaming.specs.SetUp.{fresh_machine}
use Rattle.formats.specs.Schedule.{schedule_fits, malformed, head_refusal, window_in, registers_in}
use Rattle.formats.specs.Chain.{schedule_refusal}
use Rattle.renaming.proofs.RefusalLaws.{passed, both_none}
use Rattle.formats.specs.Result.{result_length}
use Rattle.events.specs.Play.{setup_in, Ready}
use Rattle.bench.specs.Replay.{replay_refusal}

pub head_fits : (schedule : List ℕ) → head_refusal schedule ≡ 0 → schedule_fits (length schedule) ≡ true
unfolding head_refusal
head_fits schedule e = not-false _ (passed (not (schedule_fits (length schedule))) 20 (when (malformed schedule) 21 ∷ []) refl e).0

alone : (n : ℕ) (b : Bool) → eqb n 0 ≡ b → n ≡ choose b 0 n
alone n true z = eqb-true n 0 z
alone n false z = refl

-- neither the lengths, nor the result's, nor record 0 are refused, and record 0 gives W and N
pub record Passed (program memory schedule : List ℕ) (size window registers : ℕ) : Type 0 where
  pub lengths : 0 ≡ length_refusal program memory
  pub right : size ≡ result_length
  pub head : 0 ≡ head_refusal schedule
  pub window_is : window ≡ window_in schedule
  pub registers_are : registers ≡ registers_in schedule

module _ {program memory schedule : List ℕ} {size window registers : ℕ} (p : Passed program memory schedule size window registers) where
  abbrev set : Setup
  set = setup_of window registers (length program) (length memory)

  same : set ≡ setup_in program memory schedule
  same = rw (p.window_is, p.registers_are)

  pub set_stop : (refusal : Refusal) → number refusal ≡ set_up_refusal set → number refusal ≡ replay_refusal program memory schedule size
  unfolding replay_refusal first
  set_stop refusal e =
      let is : set_up_refusal (setup_in program memory schedule) ≡ number refusal = sym (e ∙ ap set_up_refusal same) in
      rw (← p.lengths, eq-eqb size result_length p.right, ← p.head, is, ne_eqb (number refusal) 0 (number_some refusal))

  module _ (none : 0 ≡ set_up_refusal set) where
    accepted : set_up_refusal (setup_in program memory schedule) ≡ 0
    accepted = sym (none ∙ ap set_up_refusal same)

    pub chain_last : (k : ℕ) → k ≡ schedule_refusal schedule → k ≡ replay_refusal program memory schedule size
    unfolding replay_refusal first
    chain_last k is = rw (← p.lengths, eq-eqb size result_length p.right, ← p.head, accepted, ← is) (alone k (eqb k 0) refl)

    pub begun_ready : (setup : Setup) → setup ≡ set → 0 ≡ schedule_refusal schedule → Ready (fresh_machine setup) program memory schedule
    begun_ready setup is chain =
        record {
          fresh = ap fresh_machine (is ∙ same);
          accepted = accepted;
          fits = head_fits schedule (sym p.head);
          chain = sym chain;
        }

module _ (program memory schedule : List ℕ) (size : ℕ) where
  abbrev set_refusal : ℕ
  set_refusal = set_up_refusal (setup_in program memory schedule)

  -- what holds where none applies
  pub record Unrefused : Type 0 where
    pub lengths : length_refusal program memory ≡ 0
    pub head : head_refusal schedule ≡ 0
    pub set_up : set_refusal ≡ 0
    pub chain : schedule_refusal schedule ≡ 0

  pub unrefused : replay_refusal program memory schedule size ≡ 0 → Unrefused
  unfolding replay_refusal
  unrefused e =
      let chain = schedule_refusal schedule ∷ [] in
      let after_head = set_refusal ∷ chain in
      let after_size = head_refusal schedule ∷ after_head in
      let one = both_none (length_refusal program memory) (when (not (eqb size result_length)) 26 ∷ after_size) e in
      let two = both_none (when (not (eqb size result_length)) 26) after_size one.1 in
      let three = both_none (head_refusal schedule) after_head two.1 in
      let four = both_none set_refusal chain three.1 in
      record { lengths = one.0; head = three.0; set_up = four.0; chain = (both_none (schedule_refusal schedule) [] four.1).0 }

  pub size_right : replay_refusal program memory schedule size ≡ 0 → size ≡ result_length
  unfolding replay_refusal
  size_right e =
      let rest = head_refusal schedule ∷ set_refusal ∷ schedule_refusal schedule ∷ [] in
      let one = both_none (length_refusal program memory) (when (not (eqb size result_length)) 26 ∷ rest) e in
      eqb-true size result_length (not-false _ (passed (not (eqb size result_length)) 26 rest refl one.1).0)
