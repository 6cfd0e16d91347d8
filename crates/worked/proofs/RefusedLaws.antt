-- A refused call leaves machine and data as they came.
use Prim.Native.Nat.{ℕ}
use mathlib.Core.Path.{◌≡◌, refl}
use mathlib.Core.Logic.{◌≢◌}
use mathlib.Core.List.{List}
use lib.Dec.{eqb}
use Rattle.renaming.specs.Call.{lent_refusal, in_turn, answered}
use Rattle.renaming.specs.Changes.{entry_at}
use Rattle.renaming.specs.declared.Core.{Core}
use Rattle.renaming.specs.Answer.{Answer}
use Rattle.decoding.specs.Decode.{decode_refusal, decoded, decode_of}
use Rattle.issuing.specs.Issue.{issue_refusal, issued, issue_of}
use Rattle.completing.specs.Complete.{complete_refusal, completed, complete_of}
use Rattle.committing.specs.Commit.{Commit, commit_refusal, committed, written_by, commit_by, commit_of}
use Rattle.window.specs.Calls.{World, Made, made_by, make}
use Rattle.window.specs.declared.Call.{Call}
use Rattle.window.specs.declared.Call.TheVariants.{Decode as decode, Issue as issue, Complete as complete, Commit as commit}
use Rattle.isa.proofs.ChoiceLaws.{by_choice}

module _ (w : World) where
  abbrev Stays : Made → Type 0
  Stays made = made.number ≢ 0 → made.world ≡ w

  answered_stays : (next : Core) (refusal : ℕ) → Stays (made_by (answered w.core refusal next).core w.memory (answered w.core refusal next).number)
  answered_stays next refusal =
      by_choice (λ (a : Answer). Stays (made_by a.core w.memory a.number)) (eqb refusal 0) (record { core = next; number = 0 })
      (record { core = w.core; number = refusal }) (λ e z. absurd (z refl)) (λ e z. refl)

  commit_stays : (refusal : ℕ)
      → let c : Commit = commit_by refusal w.memory w.core in
      Stays (made_by c.answer.core c.memory c.answer.number)
  commit_stays refusal =
      by_choice (λ (c : Commit). Stays (made_by c.answer.core c.memory c.answer.number)) (eqb refusal 0)
      (record { answer = record { core = committed w.core; number = 0 }; memory = written_by (entry_at w.core 0) w.memory })
      (record { answer = record { core = w.core; number = refusal }; memory = w.memory }) (λ e z. absurd (z refl)) (λ e z. refl)

  pub call_stays : (program : List ℕ) (call : Call) → Stays (make program call w)
  unfolding make decode_of issue_of complete_of commit_of
  call_stays program (decode guess) =
      answered_stays (decoded program guess w.core) (in_turn (lent_refusal w.core program w.memory) (decode_refusal w.core))
  call_stays program (issue position) =
      answered_stays (issued w.memory position w.core) (in_turn (lent_refusal w.core program w.memory) (issue_refusal position w.core))
  call_stays program (complete position) =
      answered_stays (completed position w.core) (in_turn (lent_refusal w.core program w.memory) (complete_refusal position w.core))
  call_stays program commit = commit_stays (in_turn (lent_refusal w.core program w.memory) (commit_refusal w.core))
