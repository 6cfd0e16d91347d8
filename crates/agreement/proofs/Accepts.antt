-- When the calls are accepted, and what they then leave.
use Prim.Native.Nat.{ℕ, suc, ◌-◌, ◌<◌}
use mathlib.Core.Path.{◌≡◌, refl, ap}
use mathlib.Core.Bool.{Bool, true, false, not, ◌&&◌}
use mathlib.Core.List.{List, [], ◌∷◌}
use native.Mathlib.Omega.{arith}
use borrow.Author.Tests.{eq-eqb, ne_eqb, lt-leb}
use lib.Dec.{leb, eqb}
use lib.ListN.{length}
use Rattle.isa.specs.Reads.{choose}
use Rattle.laws.proofs.Bools.{impossible, both}
use Rattle.execution.specs.Roles.{loads}
use Rattle.reference.specs.Step.{when}
use Rattle.tables.specs.Operand.{is_ready}
use Rattle.tables.specs.Entry.{is_waiting, is_issued, is_completed, held}
use Rattle.tables.specs.declared.State.{State as Stage}
use Rattle.tables.specs.declared.State.TheVariants.{Waits, Issued, Completed}
use Rattle.renaming.specs.Range.{machine_in_range}
use Rattle.renaming.specs.Call.{halted, no_entry, lengths_differ, lent_refusal, in_turn, answered}
use Rattle.renaming.specs.Changes.{entry_at}
use Rattle.decoding.specs.Decode.{decode_refusal, decoded, decode_of}
use Rattle.issuing.specs.Issue.{store_below, unready, issue_refusal, issued, issue_of}
use Rattle.completing.specs.Complete.{outcome_at, needs_register, none_free, complete_refusal, completed, complete_of}
use Rattle.stealing.specs.Steal.{victim_of, no_victim}
use Rattle.committing.specs.Commit.{commit_refusal, commit_by, commit_of}
use Rattle.renaming.specs.declared.Core.{Core}
use Rattle.renaming.specs.Answer.{Answer}
use Rattle.window.specs.Calls.{made_by, call_of}
use Rattle.window.specs.declared.Call.TheVariants.{Decode as decode, Issue as issue, Complete as complete, Commit as commit}
use Rattle.agreement.proofs.Refusals.{first_none, empty_none, in_turn_none, no_some}
use Rattle.agreement.proofs.Turns.{At}
use Rattle.agreement.proofs.Victims.{victim_found}

pub none_lent : (m : Core) (program memory : List ℕ) → machine_in_range m ≡ true → length program ≡ m.setup.program → length memory ≡ m.setup.bytes → lent_refusal m program memory ≡ 0
unfolding lent_refusal
none_lent m program memory r p b =
    first_none (not (machine_in_range m)) 5 (when (lengths_differ m program memory) 6 ∷ []) (ap not r)
    (first_none (lengths_differ m program memory) 6 [] (ap not (both (eq-eqb (length program) m.setup.program p) (eq-eqb (length memory) m.setup.bytes b))) empty_none)

answer_made : (m next : Core) (memory : List ℕ) (refusal : ℕ) → refusal ≡ 0 → made_by (answered m refusal next).core memory (answered m refusal next).number ≡ made_by next memory 0
answer_made m next memory refusal e = at (eqb refusal 0) (eq-eqb refusal 0 e)
  where
    at : (b : Bool) → b ≡ true → let a : Answer = choose b (record { core = next; number = 0 }) (record { core = m; number = refusal }) in made_by a.core memory a.number ≡ made_by next memory 0
    at true q = refl
    at false q = impossible q

commit_none : (m : Core) (memory : List ℕ) (refusal : ℕ) → refusal ≡ 0 → (commit_by refusal memory m).answer.number ≡ 0
commit_none m memory refusal e = rw (eq-eqb refusal 0 e)

module _ (program memory : List ℕ) (m : Core) (lent : lent_refusal m program memory ≡ 0) where
  pub decode_accepted : (guess : ℕ) → m.halt.cause ≡ 0 → m.count < m.setup.window → call_of program memory (decode guess) m ≡ made_by (decoded program guess m) memory 0
  unfolding decode_of decode_refusal
  decode_accepted guess h l =
      answer_made m (decoded program guess m) memory (in_turn (lent_refusal m program memory) (decode_refusal m)) (in_turn_none (lent_refusal m program memory) (decode_refusal m) lent
      (first_none (halted m) 10 _ (no_some m.halt.cause h)
      (first_none (leb m.setup.window m.count) 11 [] (lt-leb m.setup.window m.count l) empty_none)))

  pub issue_accepted : (i : ℕ) → At m i Waits → is_ready (entry_at m i).left ≡ true → is_ready (entry_at m i).right ≡ true → loads (entry_at m i).instruction && store_below i m.entries ≡ false
      → call_of program memory (issue i) m ≡ made_by (issued memory i m) memory 0
  unfolding issue_of issue_refusal
  issue_accepted i h a b s =
      answer_made m (issued memory i m) memory (in_turn (lent_refusal m program memory) (issue_refusal i m)) (in_turn_none (lent_refusal m program memory) (issue_refusal i m) lent
      (first_none (halted m) 10 _ (no_some m.halt.cause h.runs)
      (first_none (no_entry m i) 12 _ (lt-leb m.count i h.there)
      (first_none (not (is_waiting (entry_at m i).state)) 13 _ (ap (λ (x : Stage). not (is_waiting x)) h.state)
      (first_none (unready (entry_at m i)) 14 _ (ap not (both a b))
      (first_none (loads (entry_at m i).instruction && store_below i m.entries) 15 [] s empty_none))))))

  pub complete_accepted : (i : ℕ) → At m i Issued → needs_register m i && none_free m && no_victim m i ≡ false → call_of program memory (complete i) m ≡ made_by (completed i m) memory 0
  unfolding complete_of complete_refusal
  complete_accepted i h s =
      answer_made m (completed i m) memory (in_turn (lent_refusal m program memory) (complete_refusal i m)) (in_turn_none (lent_refusal m program memory) (complete_refusal i m) lent
      (first_none (halted m) 10 _ (no_some m.halt.cause h.runs)
      (first_none (no_entry m i) 12 _ (lt-leb m.count i h.there)
      (first_none (not (is_issued (entry_at m i).state)) 13 _ (ap (λ (x : Stage). not (is_issued x)) h.state)
      (first_none (needs_register m i && none_free m && no_victim m i) 16 [] s empty_none)))))

  pub commit_accepted : At m 0 Completed → (call_of program memory commit m).number ≡ 0
  unfolding commit_of commit_refusal
  commit_accepted h =
      commit_none m memory (in_turn (lent_refusal m program memory) (commit_refusal m)) (in_turn_none (lent_refusal m program memory) (commit_refusal m) lent
      (first_none (halted m) 10 _ (no_some m.halt.cause h.runs)
      (first_none (no_entry m 0) 12 _ (lt-leb m.count 0 h.there)
      (first_none (not (is_completed (entry_at m 0).state)) 13 [] (ap (λ (x : Stage). not (is_completed x)) h.state) empty_none))))

-- a register is there for the entry: it needs none, one is free, or a younger entry holds one
pub data Supplied (m : Core) (i : ℕ) : Type 0 where
  stopping : ((outcome_at m i).stop.cause ≡ 0 → ⊥) → Supplied m i
  needless : (entry_at m i).destination ≡ 0 → Supplied m i
  free : (m.free_registers.head ≡ 0 → ⊥) → Supplied m i
  younger : (j : ℕ) → i < j → j < m.count → (held m.physical (entry_at m j) ≡ 0 → ⊥) → Supplied m i

pub and_none : (a b : Bool) → b ≡ false → a && b ≡ false
and_none true b e = e
and_none false b e = refl

none_and : (a b : Bool) → a ≡ false → a && b ≡ false
none_and a b e = rw e

pub supplied_none : (m : Core) (i : ℕ) → Supplied m i → needs_register m i && none_free m && no_victim m i ≡ false
supplied_none m i (stopping h) =
    none_and (needs_register m i && none_free m) (no_victim m i) (none_and (needs_register m i) (none_free m) (and_none (not (eqb (entry_at m i).destination 0)) _ (ne_eqb (outcome_at m i).stop.cause 0 h)))
supplied_none m i (needless h) =
    none_and (needs_register m i && none_free m) (no_victim m i) (none_and (needs_register m i) (none_free m) (none_and (not (eqb (entry_at m i).destination 0)) _ (no_some (entry_at m i).destination h)))
supplied_none m i (free h) = none_and (needs_register m i && none_free m) (no_victim m i) (and_none (needs_register m i) (none_free m) (ne_eqb m.free_registers.head 0 h))
supplied_none m i (younger j a b h) = and_none (needs_register m i && none_free m) (no_victim m i) (ne_eqb (victim_of m i) i (victim_found (m.count - suc i) m.physical m.entries i j a (omega arith) h))
