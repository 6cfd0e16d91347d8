-- Each accepted call of drain leaves less to do: three calls for each entry, without those that the oldest has had.
use Prim.Native.Nat.{ℕ, ◌-◌, ◌*◌, ◌≤◌, ◌<◌}
use mathlib.Core.Path.{◌≡◌, refl, sym, ap}
use mathlib.Core.Bool.{Bool, true, false, ◌||◌}
use mathlib.Core.List.{List, ◌∷◌}
use native.Mathlib.Omega.{arith}
use borrow.Author.Tests.{eqb-false, eq-eqb}
use lib.Dec.{eqb}
use lib.ListN.{length, take, drop, length-append}
use Rattle.laws.proofs.Bools.{impossible}
use Rattle.execution.specs.declared.Stop.{Stop}
use Rattle.tables.specs.Entry.{empty_entry, state_number}
use Rattle.tables.specs.declared.State.{State as Stage}
use Rattle.tables.specs.declared.State.TheVariants.{Waits, Issued, Completed}
use Rattle.renaming.specs.Call.{halted, lent_refusal, in_turn, answered}
use Rattle.renaming.specs.Changes.{entry_at}
use Rattle.renaming.specs.Drop.{drop_to}
use Rattle.issuing.specs.Issue.{issue_refusal, issued, issue_of}
use Rattle.completing.specs.Complete.{complete_refusal, completed, complete_of}
use Rattle.committing.specs.Commit.{commit_refusal, halted_by, move_down, retired, committed, written_by, Commit, commit_by, commit_of}
use Rattle.window.specs.Calls.{call_of, needed_by}
use Rattle.window.specs.Drain.{idle}
use Rattle.renaming.specs.declared.Core.{Core}
use Rattle.renaming.specs.Answer.{Answer}
use Rattle.agreement.proofs.Refusals.{is_zero}
use Rattle.isa.proofs.ChoiceLaws.{by_choice}
use Rattle.agreement.proofs.Turns.{At}
use Rattle.agreement.proofs.Views.{drops_count}
use Rattle.agreement.proofs.Oldest.{issued_at, completed_at}
use Rattle.agreement.proofs.Shrinks.{shrinks_issued, shrinks_drops, shrinks_completed}

abbrev pub ahead : Core → ℕ
ahead m = 3 * m.count - state_number (entry_at m 0).state

stage_most : (s : Stage) → state_number s ≤ 2
stage_most Waits = omega arith
stage_most Issued = omega arith
stage_most Completed = omega arith

-- nothing is ahead of an empty window alone
pub none_ahead : (m : Core) → ahead m ≤ 0 → m.count ≡ 0
none_ahead m h = let s = stage_most (entry_at m 0).state in omega arith

-- an idle machine has no entry or halted; another runs and has one
pub idle_empty : (m : Core) → m.count ≡ 0 → idle m ≡ true
idle_empty m e = rw (eq-eqb m.count 0 e)

pub busy : (m : Core) → idle m ≡ false → At m 0 (entry_at m 0).state
busy m e = at (eqb m.count 0) refl e
  where
    at : (b : Bool) → eqb m.count 0 ≡ b → b || halted m ≡ false → At m 0 (entry_at m 0).state
    at true q z = impossible (sym z)
    at false q z = record { runs = is_zero m.halt.cause z; there = let n = eqb-false m.count 0 q in omega arith; state = refl }

-- less is ahead, and the array has a place for the oldest entry
pub record Lower (m k : Core) : Type 0 where
  pub room : 0 < length k.entries
  pub less : ahead k < ahead m

retired_count : (m : Core) → (retired m).count ≡ m.count - 1
unfolding retired
retired_count m = refl

retired_room : (m : Core) → 0 < length (retired m).entries
unfolding retired move_down
retired_room m = let l = length-append (drop 1 (take m.count m.entries)) (empty_entry ∷ drop m.count m.entries) in omega arith

halted_count : (why : Stop) (m : Core) → (halted_by why m).count ≡ m.count
unfolding halted_by
halted_count why m = refl

halted_entries : (why : Stop) (m : Core) → (halted_by why m).entries ≡ m.entries
unfolding halted_by
halted_entries why m = refl

module _ (m : Core) (room : 0 < length m.entries) where
  issue_lowers : (memory : List ℕ) → At m 0 Waits → Lower m (issued memory 0 m)
  issue_lowers memory a =
      let k : Core = issued memory 0 m in
      let s = shrinks_issued memory 0 m in
      let c = s.count in
      let l = s.length in
      let before : state_number (entry_at m 0).state ≡ 0 = ap state_number a.state in
      let after : state_number (entry_at k 0).state ≡ 1 = ap state_number (issued_at m room memory a).state in
      let h = a.there in
      record { room = omega arith; less = omega arith }

  complete_lowers : At m 0 Issued → Lower m (completed 0 m)
  complete_lowers a =
      let k : Core = completed 0 m in
      let s = shrinks_completed 0 m in
      let c = s.count in
      let l = s.length in
      let before : state_number (entry_at m 0).state ≡ 1 = ap state_number a.state in
      let after : state_number (entry_at k 0).state ≡ 2 = ap state_number (completed_at m room a).state in
      let h = a.there in
      record { room = omega arith; less = omega arith }

  retire_lowers : At m 0 Completed → Lower m (retired m)
  retire_lowers a =
      let before : state_number (entry_at m 0).state ≡ 2 = ap state_number a.state in
      let c = retired_count m in
      let h = a.there in
      record { room = retired_room m; less = omega arith }

  halt_lowers : (why : Stop) → At m 0 Completed → Lower m (halted_by why (drop_to 0 m))
  halt_lowers why a =
      let before : state_number (entry_at m 0).state ≡ 2 = ap state_number a.state in
      let d : Core = drop_to 0 m in
      let c = halted_count why d in
      let n = drops_count (m.count - 0) m in
      let l = (shrinks_drops (m.count - 0) m).length in
      let e = ap length (halted_entries why d) in
      let h = a.there in
      record { room = omega arith; less = omega arith }

  commit_lowers : At m 0 Completed → Lower m (committed m)
  commit_lowers a =
      let why : Stop = (entry_at m 0).stop in
      by_choice (Lower m) (eqb why.cause 0) (retired m) (halted_by why (drop_to 0 m)) (λ x. retire_lowers a) (λ x. halt_lowers why a)

  -- an answer and a commit, if accepted
  answer_lowers : (next : Core) (refusal : ℕ) → Lower m next → (answered m refusal next).number ≡ 0 → Lower m (answered m refusal next).core
  answer_lowers next refusal l =
      by_choice (λ (a : Answer). a.number ≡ 0 → Lower m a.core) (eqb refusal 0) (record { core = next; number = 0 }) (record { core = m; number = refusal })
      (λ e z. l) (λ e z. absurd (eqb-false refusal 0 e z))

  by_lowers : (memory : List ℕ) (refusal : ℕ) → Lower m (committed m) → (commit_by refusal memory m).answer.number ≡ 0 → Lower m (commit_by refusal memory m).answer.core
  by_lowers memory refusal l =
      by_choice (λ (c : Commit). c.answer.number ≡ 0 → Lower m c.answer.core) (eqb refusal 0)
      (record { answer = record { core = committed m; number = 0 }; memory = written_by (entry_at m 0) memory }) (record { answer = record { core = m; number = refusal }; memory = memory })
      (λ e z. l) (λ e z. absurd (eqb-false refusal 0 e z))

  pub needed_lowers : (program memory : List ℕ) (s : Stage) → At m 0 s → (call_of program memory (needed_by s) m).number ≡ 0 → Lower m (call_of program memory (needed_by s) m).world.core
  unfolding issue_of complete_of commit_of
  needed_lowers program memory Waits a = answer_lowers (issued memory 0 m) (in_turn (lent_refusal m program memory) (issue_refusal 0 m)) (issue_lowers memory a)
  needed_lowers program memory Issued a = answer_lowers (completed 0 m) (in_turn (lent_refusal m program memory) (complete_refusal 0 m)) (complete_lowers a)
  needed_lowers program memory Completed a = by_lowers memory (in_turn (lent_refusal m program memory) (commit_refusal m)) (commit_lowers a)
