-- Unless halted, at most four further calls are all accepted and the last is a commit.
use Prim.Native.Nat.{ℕ, suc, ◌+◌, ◌<◌}
use mathlib.Core.Path.{◌≡◌, refl, sym, ap, subst, ◌∙◌}
use mathlib.Core.Bool.{Bool, true, false, ◌&&◌}
use mathlib.Core.List.{List}
use native.Mathlib.Omega.{arith}
use borrow.Author.Tests.{eq-eqb, ne_eqb}
use lib.ListN.{length, get_or}
use Rattle.isa.specs.Reads.{choose}
use Rattle.laws.proofs.Bools.{impossible}
use Rattle.execution.specs.Execute.{onward}
use Rattle.execution.specs.Roles.{loads}
use Rattle.reference.specs.Step.{State}
use Rattle.tables.specs.Entry.{empty_entry, is_issued}
use Rattle.tables.specs.Operand.{is_ready}
use Rattle.tables.specs.declared.State.{State as Stage}
use Rattle.tables.specs.declared.State.TheVariants.{Waits, Issued, Completed}
use Rattle.tables.specs.declared.Entry.{Entry}
use Rattle.renaming.specs.Call.{lent_refusal}
use Rattle.renaming.specs.Changes.{entry_at}
use Rattle.decoding.specs.Decode.{decoded}
use Rattle.issuing.specs.Issue.{store_below, issued}
use Rattle.completing.specs.Complete.{completed}
use Rattle.renaming.specs.declared.Core.{Core}
use Rattle.window.specs.Calls.{World, Made, made_by, call_of, is_commit, needed_by, make}
use Rattle.window.specs.declared.Call.{Call}
use Rattle.window.specs.declared.Call.TheVariants.{Decode as decode, Issue as issue, Complete as complete, Commit as commit}
use Rattle.agreement.specs.Lists.{own, accepted_commit, needed, CommitsWithin, make_event}
use Rattle.agreement.proofs.View.{View, view_of}
use Rattle.agreement.proofs.Invariant.{Invariant}
use Rattle.agreement.proofs.Tests.{equal, apart, eq?}
use Rattle.agreement.proofs.Liveness.{Holder, room_when_empty, left_ready, right_ready, holder}
use Rattle.agreement.proofs.Victims.{held_completed}
use Rattle.agreement.proofs.Views.{seen_length, seen_entry}
use Rattle.agreement.proofs.Turns.{At}
use Rattle.agreement.proofs.Accepts.{decode_accepted, issue_accepted, complete_accepted, commit_accepted, Supplied, needless, free, younger, supplied_none}
use Rattle.agreement.proofs.Safe.{Safe, alive, dead, Reached, make_reached}
use Rattle.agreement.proofs.Reaching.{reached_lent}
use Rattle.agreement.proofs.Oldest.{issued_at, completed_at, Entered, waiting, ended, decoded_at}

-- one call more
module _ (program : List ℕ) (w : World) where
  within_at : (n : ℕ) (call : Call) → (call_of program w.memory call w.core).number ≡ 0
      → (is_commit call ≡ false → CommitsWithin n program (call_of program w.memory call w.core).world)
      → needed w.core ≡ call → CommitsWithin (suc n) program w
  unfolding CommitsWithin make make_event
  within_at n call a f q =
      subst (λ (x : Call). ((call_of program w.memory x w.core).number ≡ 0) × ((is_commit x ≡ false) → CommitsWithin n program (call_of program w.memory x w.core).world)) (sym q) (a, f)

  -- by what the call leaves
  within_made : (n : ℕ) (call : Call) (m : Core) → call_of program w.memory call w.core ≡ made_by m w.memory 0 → needed w.core ≡ call
      → CommitsWithin n program (record { core = m; memory = w.memory }) → CommitsWithin (suc n) program w
  within_made n call m e q f =
      within_at n call (ap (λ (x : Made). x.number) e) (λ z. subst (λ (x : Made). CommitsWithin n program x.world) (sym e) f) q

pub needed_some : (m : Core) (s : Stage) → At m 0 s → needed m ≡ needed_by s
needed_some m s a =
    let h = a.there in
    ap (λ (b : Bool). choose b (decode (onward m.fetch)) (needed_by (entry_at m 0).state)) (ne_eqb m.count 0 (λ z. omega arith)) ∙ ap needed_by a.state

needed_none : (m : Core) → m.count ≡ 0 → needed m ≡ decode (onward m.fetch)
needed_none m z = ap (λ (b : Bool). choose b (decode (onward m.fetch)) (needed_by (entry_at m 0).state)) (eq-eqb m.count 0 z)

-- a world that runs
pub record Lively (program : List ℕ) (start : State) (n : ℕ) (w : World) : Type 0 where
  pub reached : Reached program start n w
  pub state : State
  pub memory : w.memory ≡ state.memory
  pub invariant : Invariant program state (view_of w.core)
  pub lent : lent_refusal w.core program w.memory ≡ 0

pub lively : (program : List ℕ) (start : State) (n : ℕ) (w : World) → Reached program start n w → w.core.halt.cause ≡ 0 → Lively program start n w
lively program start n w r z = at r.safe
  where
    at : Safe program start n w → Lively program start n w
    at (alive s run halt memory zeros inv) = record { reached = r; state = s; memory = memory; invariant = inv; lent = reached_lent program start n w r }
    at (dead s k l run halt memory zeros why empty) = absurd (halt z)

module _ (program : List ℕ) (start : State) (n : ℕ) (w : World) (l : Lively program start n w) where
  abbrev m : Core
  m = w.core

  abbrev c : View
  c = view_of m

  room : 0 < length m.entries
  room = let k = l.reached.fit.kept.entries in omega arith

  inside : 0 < m.count → 0 < length c.entries
  inside h = let s = seen_length m l.reached.fit.kept in omega arith

  commit_within_lem : (k : ℕ) → At m 0 Completed → CommitsWithin (suc k) program w
  commit_within_lem k a = within_at program w k commit (commit_accepted program w.memory m l.lent a) (λ z. impossible (sym z)) (needed_some m Completed a)

  -- a register is there
  supplied : At m 0 Issued → Supplied m 0
  supplied a = elim (eq? (entry_at m 0).destination 0) [
    | equal e t ↦ needless e
    | apart e t ↦ elim (eq? m.free_registers.head 0) [
      | equal z u ↦ from (holder program l.state c l.invariant (inside a.there) (λ q. early q) z)
      | apart z u ↦ free z
    ]
  ]
    where
      early : (get_or c.entries 0 empty_entry).state ≡ Completed → ⊥
      early q = impossible (sym (ap is_issued (sym a.state ∙ ap (λ (e : Entry). e.state) (sym (seen_entry m 0 a.there)) ∙ q)))

      from : Holder c 0 → Supplied m 0
      from h =
          let s = seen_length m l.reached.fit.kept in
          let j : ℕ = h.position in
          let b = h.within in
          let q : get_or c.entries j empty_entry ≡ entry_at m j = seen_entry m j (omega arith) in
          younger j h.younger (omega arith)
          (λ z. h.has (ap (λ (e : Entry). get_or m.physical e.name 0) q ∙ sym (held_completed m.physical (entry_at m j) l.invariant.accounting.contents.valued.zero_register (ap (λ (e : Entry). e.state) (sym q) ∙ h.completed)) ∙ z))

  complete_made : At m 0 Issued → call_of program w.memory (complete 0) m ≡ made_by (completed 0 m) w.memory 0
  complete_made a = complete_accepted program w.memory m l.lent 0 a (supplied_none m 0 (supplied a))

  issue_made : At m 0 Waits → call_of program w.memory (issue 0) m ≡ made_by (issued w.memory 0 m) w.memory 0
  unfolding store_below
  issue_made a =
      let q : get_or c.entries 0 empty_entry ≡ entry_at m 0 = seen_entry m 0 a.there in
      issue_accepted program w.memory m l.lent 0 a
      (ap (λ (e : Entry). is_ready e.left) (sym q) ∙ left_ready program l.state c l.invariant (inside a.there))
      (ap (λ (e : Entry). is_ready e.right) (sym q) ∙ right_ready program l.state c l.invariant (inside a.there))
      (none (loads (entry_at m 0).instruction))
    where
      none : (b : Bool) → b && false ≡ false
      none true = refl
      none false = refl

  decode_made : (guess : ℕ) → m.halt.cause ≡ 0 → m.count ≡ 0 → call_of program w.memory (decode guess) m ≡ made_by (decoded program guess m) w.memory 0
  decode_made guess r z =
      let s = seen_length m l.reached.fit.kept in
      let h : length c.entries < m.setup.window = room_when_empty program l.state c l.invariant (s ∙ z) in
      decode_accepted program w.memory m l.lent guess r (omega arith)

-- the world after an accepted call runs
module _ (program : List ℕ) (start : State) where
  after : (n : ℕ) (w : World) (call : Call) (m : Core) → Lively program start n w → call_of program w.memory call w.core ≡ made_by m w.memory 0 → m.halt.cause ≡ 0
      → (k : ℕ) × Lively program start k (record { core = m; memory = w.memory })
  unfolding make make_event
  after n w call m l e z =
      let r = make_reached program start n (own call) w l.reached in
      let k : ℕ = n + accepted_commit (own call) (call_of program w.memory call w.core).number in
      (k, lively program start k (record { core = m; memory = w.memory }) (subst (λ (x : Made). Reached program start k x.world) e r) z)

  issued_within : (n k : ℕ) (w : World) → Lively program start n w → At w.core 0 Issued → CommitsWithin (suc (suc k)) program w
  issued_within n k w l a =
      let m : Core = completed 0 w.core in
      let b : At m 0 Completed = completed_at w.core (room program start n w l) a in
      let e = complete_made program start n w l a in
      let next = after n w (complete 0) m l e b.runs in
      within_made program w (suc k) (complete 0) m e (needed_some w.core Issued a) (commit_within_lem program start next.0 (record { core = m; memory = w.memory }) next.1 k b)

  waiting_within : (n k : ℕ) (w : World) → Lively program start n w → At w.core 0 Waits → CommitsWithin (suc (suc (suc k))) program w
  waiting_within n k w l a =
      let m : Core = issued w.memory 0 w.core in
      let b : At m 0 Issued = issued_at w.core (room program start n w l) w.memory a in
      let e = issue_made program start n w l a in
      let next = after n w (issue 0) m l e b.runs in
      within_made program w (suc (suc k)) (issue 0) m e (needed_some w.core Waits a) (issued_within next.0 k (record { core = m; memory = w.memory }) next.1 b)

  entered_within : (n k : ℕ) (w : World) → Lively program start n w → Entered w.core → CommitsWithin (suc (suc (suc k))) program w
  entered_within n k w l (waiting a) = waiting_within n k w l a
  entered_within n k w l (ended a) = commit_within_lem program start n w l (suc (suc k)) a

  empty_within : (n k : ℕ) (w : World) → Lively program start n w → w.core.halt.cause ≡ 0 → w.core.count ≡ 0 → CommitsWithin (suc (suc (suc (suc k)))) program w
  empty_within n k w l r z =
      let guess : ℕ = onward w.core.fetch in
      let m : Core = decoded program guess w.core in
      let b : Entered m = decoded_at program guess w.core (room program start n w l) r z in
      let e = decode_made program start n w l guess r z in
      let next = after n w (decode guess) m l e (entered_runs m b) in
      within_made program w (suc (suc (suc k))) (decode guess) m e (needed_none w.core z) (entered_within next.0 k (record { core = m; memory = w.memory }) next.1 b)
    where
      entered_runs : (m : Core) → Entered m → m.halt.cause ≡ 0
      entered_runs m (waiting a) = a.runs
      entered_runs m (ended a) = a.runs

  some_within : (n : ℕ) (w : World) (s : Stage) → Lively program start n w → At w.core 0 s → CommitsWithin 4 program w
  some_within n w Waits l a = waiting_within n 1 w l a
  some_within n w Issued l a = issued_within n 2 w l a
  some_within n w Completed l a = commit_within_lem program start n w l 3 a

  pub commits_within : (n : ℕ) (w : World) → Reached program start n w → w.core.halt.cause ≡ 0 → CommitsWithin 4 program w
  commits_within n w r z =
      let l = lively program start n w r z in
      elim (eq? w.core.count 0) [
        | equal e t ↦ empty_within n 0 w l z e
        | apart e t ↦ some_within n w (entry_at w.core 0).state l (record { runs = z; there = omega arith; state = refl })
      ]
