-- How a call can end: the tests are walked here and nowhere else.
use Prim.Native.Nat.{ℕ, suc, ◌-◌, ◌<◌}
use mathlib.Core.Path.{◌≡◌, refl, sym, ap, ◌∙◌}
use mathlib.Core.Bool.{Bool, true, false, not, ◌&&◌}
use mathlib.Core.List.{List, [], ◌∷◌}
use native.Mathlib.Omega.{arith}
use borrow.Author.Tests.{eqb-true, eqb-false, not-false, leb-false}
use lib.Dec.{eqb, leb}
use Rattle.isa.specs.Reads.{choose}
use Rattle.execution.specs.Memory.{stored}
use Rattle.execution.specs.Roles.{loads}
use Rattle.reference.specs.Step.{when}
use Rattle.laws.proofs.Bools.{impossible, and_left, and_right}
use Rattle.tables.specs.Operand.{is_ready}
use Rattle.tables.specs.Entry.{is_waiting, is_issued, is_completed, stopped_entry, completed_entry, held}
use Rattle.tables.specs.declared.State.{State as Stage}
use Rattle.tables.specs.declared.State.TheVariants.{Waits, Issued, Completed}
use Rattle.tables.specs.declared.Entry.{Entry}
use Rattle.renaming.specs.Range.{machine_in_range}
use Rattle.renaming.specs.Call.{halted, no_entry, lengths_differ, lent_refusal, in_turn, answered}
use Rattle.renaming.specs.Changes.{entry_at, place}
use Rattle.renaming.specs.Drop.{drop_to}
use Rattle.decoding.specs.Decode.{decode_refusal, decoded, decode_of}
use Rattle.issuing.specs.Issue.{store_below, unready, issue_refusal, issued, issue_of}
use Rattle.completing.specs.Complete.{outcome_at, needs_register, none_free, complete_refusal, learned, redirected, completed, complete_of}
use Rattle.stealing.specs.Steal.{victim_of, no_victim, robbed}
use Rattle.committing.specs.Commit.{commit_refusal, halted_by, retired, committed, written_by, Commit, commit_by, commit_of}
use Rattle.renaming.specs.declared.Core.{Core}
use Rattle.renaming.specs.Answer.{Answer}
use Rattle.window.specs.Calls.{World, Made, made_by, call_of, make}
use Rattle.window.specs.declared.Call.{Call}
use Rattle.window.specs.declared.Call.TheVariants.{Decode as decode, Issue as issue, Complete as complete, Commit as commit}
use Rattle.agreement.specs.Lists.{Event, own, other, aside, call_in, make_event}
use Rattle.agreement.proofs.Refusals.{none_first, in_turn_lem, in_turn_lent, is_zero, and_false}
use Rattle.agreement.proofs.Victims.{victim_is}

-- the machine runs and has an entry there, in this state
pub record At (m : Core) (i : ℕ) (s : Stage) : Type 0 where
  pub runs : m.halt.cause ≡ 0
  pub there : i < m.count
  pub state : (entry_at m i).state ≡ s

-- an issued entry that goes on without a cause
pub record Goes (m : Core) (i : ℕ) : Type 0 where
  pub at : At m i Issued
  pub calm : (outcome_at m i).stop.cause ≡ 0

pub data Turn (program : List ℕ) (w : World) (call : Call) (made : Made) : Type 0 where
  refused : (n : ℕ) → (n ≡ 0 → ⊥) → made ≡ made_by w.core w.memory n → Turn program w call made
  enters : (guess : ℕ) → call ≡ decode guess → w.core.halt.cause ≡ 0 → w.core.count < w.core.setup.window
      → made ≡ made_by (decoded program guess w.core) w.memory 0 → Turn program w call made
  issues : (i : ℕ) → call ≡ issue i → At w.core i Waits → is_ready (entry_at w.core i).left ≡ true → is_ready (entry_at w.core i).right ≡ true
      → (loads (entry_at w.core i).instruction ≡ true → store_below i w.core.entries ≡ false)
      → made ≡ made_by (issued w.memory i w.core) w.memory 0 → Turn program w call made
  ends : (i : ℕ) → call ≡ complete i → At w.core i Issued → ((outcome_at w.core i).stop.cause ≡ 0 → ⊥)
      → made ≡ made_by (place i (stopped_entry (outcome_at w.core i).stop (entry_at w.core i)) w.core) w.memory 0 → Turn program w call made
  settles : (i : ℕ) → call ≡ complete i → Goes w.core i → (entry_at w.core i).destination ≡ 0
      → made ≡ made_by (redirected i (outcome_at w.core i).next (place i (completed_entry 0 (entry_at w.core i)) w.core)) w.memory 0 → Turn program w call made
  takes : (i : ℕ) → call ≡ complete i → Goes w.core i → ((entry_at w.core i).destination ≡ 0 → ⊥) → (w.core.free_registers.head ≡ 0 → ⊥)
      → made ≡ made_by (redirected i (outcome_at w.core i).next (learned i w.core.free_registers.head (outcome_at w.core i).result w.core)) w.memory 0 → Turn program w call made
  steals : (i v : ℕ) → call ≡ complete i → Goes w.core i → ((entry_at w.core i).destination ≡ 0 → ⊥) → w.core.free_registers.head ≡ 0
      → v ≡ victim_of w.core i → i < v → v < w.core.count → (held w.core.physical (entry_at w.core v) ≡ 0 → ⊥)
      → made ≡ made_by (redirected i (outcome_at w.core i).next (learned i (held w.core.physical (entry_at w.core v)) (outcome_at w.core i).result (robbed v w.core))) w.memory 0
      → Turn program w call made
  retires : call ≡ commit → At w.core 0 Completed → (entry_at w.core 0).stop.cause ≡ 0
      → made ≡ made_by (retired w.core) (let e : Entry = entry_at w.core 0 in stored e.instruction e.first e.second w.memory) 0 → Turn program w call made
  halts : call ≡ commit → At w.core 0 Completed → ((entry_at w.core 0).stop.cause ≡ 0 → ⊥)
      → made ≡ made_by (halted_by (entry_at w.core 0).stop (drop_to 0 w.core)) w.memory 0 → Turn program w call made

-- what the tests of a state say
pub is_waiting_lem : (s : Stage) → not (is_waiting s) ≡ false → s ≡ Waits
is_waiting_lem Waits e = refl
is_waiting_lem Issued e = impossible (sym e)
is_waiting_lem Completed e = impossible (sym e)

pub is_issued_lem : (s : Stage) → not (is_issued s) ≡ false → s ≡ Issued
is_issued_lem Waits e = impossible (sym e)
is_issued_lem Issued e = refl
is_issued_lem Completed e = impossible (sym e)

pub is_completed_lem : (s : Stage) → not (is_completed s) ≡ false → s ≡ Completed
is_completed_lem Waits e = impossible (sym e)
is_completed_lem Issued e = impossible (sym e)
is_completed_lem Completed e = refl

-- an answer, by its refusal
by_answer : (P : Core → ℕ → Type 0) (m next : Core) (refusal : ℕ) → ((refusal ≡ 0 → ⊥) → P m refusal) → (refusal ≡ 0 → P next 0)
    → P (answered m refusal next).core (answered m refusal next).number
by_answer P m next refusal f g = at (eqb refusal 0) refl
  where
    at : (b : Bool) → eqb refusal 0 ≡ b
        → let a : Answer = choose b (record { core = next; number = 0 }) (record { core = m; number = refusal }) in P a.core a.number
    at true e = g (eqb-true refusal 0 e)
    at false e = f (eqb-false refusal 0 e)

module _ (program : List ℕ) (w : World) where
  abbrev m : Core
  m = w.core

  abbrev lent : ℕ
  lent = lent_refusal m program w.memory

  decode_turn : (guess : ℕ) → Turn program w (decode guess) (call_of program w.memory (decode guess) m)
  unfolding decode_of decode_refusal
  decode_turn guess =
      by_answer (λ x n. Turn program w (decode guess) (made_by x w.memory n)) m (decoded program guess m) (in_turn lent (decode_refusal m)) (λ z. refused _ z refl) (λ z.
      let b = in_turn_lem lent (decode_refusal m) z in
      let p = none_first (halted m) 10 (when (leb m.setup.window m.count) 11 ∷ []) (λ e. omega arith) b.own in
      let q = none_first (leb m.setup.window m.count) 11 [] (λ e. omega arith) p.later in
      enters guess refl (is_zero m.halt.cause p.here) (leb-false m.setup.window m.count q.here) refl)

  issue_turn : (i : ℕ) → Turn program w (issue i) (call_of program w.memory (issue i) m)
  unfolding issue_of issue_refusal
  issue_turn i =
      by_answer (λ x n. Turn program w (issue i) (made_by x w.memory n)) m (issued w.memory i m) (in_turn lent (issue_refusal i m)) (λ z. refused _ z refl) (λ z.
      let e : Entry = entry_at m i in
      let b = in_turn_lem lent (issue_refusal i m) z in
      let p = none_first (halted m) 10 _ (λ e. omega arith) b.own in
      let q = none_first (no_entry m i) 12 _ (λ e. omega arith) p.later in
      let r = none_first (not (is_waiting e.state)) 13 _ (λ e. omega arith) q.later in
      let s = none_first (unready e) 14 _ (λ e. omega arith) r.later in
      let t = none_first (loads e.instruction && store_below i m.entries) 15 _ (λ e. omega arith) s.later in
      let ready = not-false (is_ready e.left && is_ready e.right) s.here in
      issues i refl (record { runs = is_zero m.halt.cause p.here; there = leb-false m.count i q.here; state = is_waiting_lem e.state r.here })
      (and_left (is_ready e.left) (is_ready e.right) ready) (and_right (is_ready e.left) (is_ready e.right) ready)
      (λ l. and_false (loads e.instruction) (store_below i m.entries) t.here l) refl)

  complete_at : (i : ℕ) → At m i Issued → needs_register m i && none_free m && no_victim m i ≡ false → (a b c : Bool) → eqb (outcome_at m i).stop.cause 0 ≡ a → eqb (entry_at m i).destination 0 ≡ b → none_free m ≡ c
      → Turn program w (complete i) (made_by
      (choose a
      (redirected i (outcome_at m i).next
      (choose b (place i (completed_entry 0 (entry_at m i)) m)
      (learned i (choose c (held m.physical (entry_at m (victim_of m i))) m.free_registers.head) (outcome_at m i).result (choose c (robbed (victim_of m i) m) m))))
      (place i (stopped_entry (outcome_at m i).stop (entry_at m i)) m)) w.memory 0)
  complete_at i h free false b c ea eb ec = ends i refl h (eqb-false (outcome_at m i).stop.cause 0 ea) refl
  complete_at i h free true true c ea eb ec =
      settles i refl (record { at = h; calm = eqb-true (outcome_at m i).stop.cause 0 ea }) (eqb-true (entry_at m i).destination 0 eb) refl
  complete_at i h free true false false ea eb ec =
      takes i refl (record { at = h; calm = eqb-true (outcome_at m i).stop.cause 0 ea }) (eqb-false (entry_at m i).destination 0 eb) (eqb-false m.free_registers.head 0 ec) refl
  complete_at i h free true false true ea eb ec =
      let needs : needs_register m i && none_free m ≡ true = rw (ea, eb, ec) in
      let v : ℕ = victim_of m i in
      let y = victim_is (m.count - suc i) m.physical m.entries i (eqb-false v i (and_false (needs_register m i && none_free m) (no_victim m i) free needs)) in
      steals i v refl (record { at = h; calm = eqb-true (outcome_at m i).stop.cause 0 ea }) (eqb-false (entry_at m i).destination 0 eb) (eqb-true m.free_registers.head 0 ec)
      refl y.0 (omega (arith, y.1, h.there)) y.2 refl

  complete_turn : (i : ℕ) → Turn program w (complete i) (call_of program w.memory (complete i) m)
  unfolding complete_of complete_refusal
  complete_turn i =
      by_answer (λ x n. Turn program w (complete i) (made_by x w.memory n)) m (completed i m) (in_turn lent (complete_refusal i m)) (λ z. refused _ z refl) (λ z.
      let e : Entry = entry_at m i in
      let b = in_turn_lem lent (complete_refusal i m) z in
      let p = none_first (halted m) 10 _ (λ e. omega arith) b.own in
      let q = none_first (no_entry m i) 12 _ (λ e. omega arith) p.later in
      let r = none_first (not (is_issued e.state)) 13 _ (λ e. omega arith) q.later in
      let s = none_first (needs_register m i && none_free m && no_victim m i) 16 _ (λ e. omega arith) r.later in
      complete_at i (record { runs = is_zero m.halt.cause p.here; there = leb-false m.count i q.here; state = is_issued_lem e.state r.here }) s.here
      (eqb (outcome_at m i).stop.cause 0) (eqb e.destination 0) (none_free m) refl refl refl)

  commit_at : At m 0 Completed → (a : Bool) → eqb (entry_at m 0).stop.cause 0 ≡ a
      → Turn program w commit (made_by (choose a (retired m) (halted_by (entry_at m 0).stop (drop_to 0 m))) (choose a (let e : Entry = entry_at m 0 in stored e.instruction e.first e.second w.memory) w.memory) 0)
  commit_at h true e = retires refl h (eqb-true (entry_at m 0).stop.cause 0 e) refl
  commit_at h false e = halts refl h (eqb-false (entry_at m 0).stop.cause 0 e) refl

  commit_by_lem : (refusal : ℕ) → (refusal ≡ 0 → At m 0 Completed)
      → Turn program w commit (made_by (commit_by refusal w.memory m).answer.core (commit_by refusal w.memory m).memory (commit_by refusal w.memory m).answer.number)
  commit_by_lem refusal h = at (eqb refusal 0) refl
    where
      at : (b : Bool) → eqb refusal 0 ≡ b
          → let c : Commit = choose b (record { answer = record { core = committed m; number = 0 }; memory = written_by (entry_at m 0) w.memory }) (record { answer = record { core = m; number = refusal }; memory = w.memory }) in
          Turn program w commit (made_by c.answer.core c.memory c.answer.number)
      at true e = commit_at (h (eqb-true refusal 0 e)) (eqb (entry_at m 0).stop.cause 0) refl
      at false e = refused refusal (eqb-false refusal 0 e) refl

  commit_turn : Turn program w commit (call_of program w.memory commit m)
  unfolding commit_of commit_refusal
  commit_turn =
      commit_by_lem (in_turn lent (commit_refusal m)) (λ z.
      let e : Entry = entry_at m 0 in
      let b = in_turn_lem lent (commit_refusal m) z in
      let p = none_first (halted m) 10 _ (λ e. omega arith) b.own in
      let q = none_first (no_entry m 0) 12 _ (λ e. omega arith) p.later in
      let r = none_first (not (is_completed e.state)) 13 _ (λ e. omega arith) q.later in
      record { runs = is_zero m.halt.cause p.here; there = leb-false m.count 0 q.here; state = is_completed_lem e.state r.here })

  pub call_turn : (call : Call) → Turn program w call (call_of program w.memory call m)
  call_turn (decode guess) = decode_turn guess
  call_turn (issue i) = issue_turn i
  call_turn (complete i) = complete_turn i
  call_turn commit = commit_turn

-- bytes of other lengths are refused, whatever the call
differ : (m : Core) (program memory : List ℕ) → lengths_differ m program memory ≡ true → lent_refusal m program memory ≡ 0 → ⊥
unfolding lent_refusal
differ m program memory d e =
    let p = none_first (not (machine_in_range m)) 5 (when (lengths_differ m program memory) 6 ∷ []) (λ z. omega arith) e in
    let q = none_first (lengths_differ m program memory) 6 [] (λ z. omega arith) p.later in
    impossible (sym q.here ∙ d)

-- the machine as it came, with a refusal
pub record Turned (m : Core) (made : Made) : Type 0 where
  pub number : made.number ≡ 0 → ⊥
  pub core : made.world.core ≡ m

module _ (program memory : List ℕ) (m : Core) (l : lent_refusal m program memory ≡ 0 → ⊥) where
  answer_turned : (test : ℕ) (next : Core) (bytes : List ℕ)
      → let a : Answer = answered m (in_turn (lent_refusal m program memory) test) next in Turned m (made_by a.core bytes a.number)
  answer_turned test next bytes =
      by_answer (λ x n. Turned m (made_by x bytes n)) m next (in_turn (lent_refusal m program memory) test) (λ z. record { number = z; core = refl }) (λ z. absurd (in_turn_lent (lent_refusal m program memory) test l z))

  commit_turned : (test : ℕ) → let c : Commit = commit_by (in_turn (lent_refusal m program memory) test) memory m in Turned m (made_by c.answer.core c.memory c.answer.number)
  commit_turned test = at (eqb (in_turn (lent_refusal m program memory) test) 0) refl
    where
      at : (b : Bool) → eqb (in_turn (lent_refusal m program memory) test) 0 ≡ b
          → let c : Commit = choose b (record { answer = record { core = committed m; number = 0 }; memory = written_by (entry_at m 0) memory }) (record { answer = record { core = m; number = in_turn (lent_refusal m program memory) test }; memory = memory }) in
          Turned m (made_by c.answer.core c.memory c.answer.number)
      at true e = absurd (in_turn_lent (lent_refusal m program memory) test l (eqb-true (in_turn (lent_refusal m program memory) test) 0 e))
      at false e = record { number = eqb-false (in_turn (lent_refusal m program memory) test) 0 e; core = refl }

  pub call_turned : (call : Call) → Turned m (call_of program memory call m)
  unfolding decode_of issue_of complete_of commit_of
  call_turned (decode guess) = answer_turned (decode_refusal m) (decoded program guess m) memory
  call_turned (issue i) = answer_turned (issue_refusal i m) (issued memory i m) memory
  call_turned (complete i) = answer_turned (complete_refusal i m) (completed i m) memory
  call_turned commit = commit_turned (commit_refusal m)

pub turn : (program : List ℕ) (e : Event) (w : World) → Turn program w (call_in e) (make_event program e w)
unfolding make make_event
turn program (own call) w = call_turn program w call
turn program (other call bytes memory) w = at (lengths_differ w.core bytes memory) refl
  where
    at : (b : Bool) → lengths_differ w.core bytes memory ≡ b
        → Turn program w call (choose b (aside w (call_of bytes memory call w.core)) (call_of program w.memory call w.core))
    at true e =
        let t = call_turned bytes memory w.core (differ w.core bytes memory e) call in
        refused (call_of bytes memory call w.core).number t.number (ap (λ (x : Core). made_by x w.memory (call_of bytes memory call w.core).number) t.core)
    at false e = call_turn program w call
