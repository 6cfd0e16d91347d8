-- After every list of calls: the machine runs and keeps the invariant at the in-order state of as many steps, or it halted where the in-order run stopped.
use Prim.Native.Nat.{ℕ, ◌+◌}
use mathlib.Core.Path.{◌≡◌, refl, sym, ap, subst, ◌∙◌}
use mathlib.Core.Logic.{◌≢◌}
use mathlib.Core.List.{List, [], ◌∷◌}
use native.Mathlib.Nat.{add-zero, add_assoc}
use borrow.Author.Tests.{ne_eqb}
use lib.Dec.{eqb}
use lib.ListN.{length, get_or}
use Rattle.isa.specs.Reads.{choose}
use Rattle.execution.specs.Execute.{stop}
use Rattle.reference.specs.Fetch.{FetchNumbers, fetch_at}
use Rattle.execution.specs.Memory.{stored}
use Rattle.reference.specs.Run.{run_of}
use Rattle.reference.specs.Step.{State, Step, stopped_at, step_with, step_of}
use Rattle.execution.specs.declared.Stop.{Stop}
use Rattle.reference.proofs.Laws.{statement}
use Rattle.tables.specs.Entry.{stopped_entry, completed_entry, held}
use Rattle.tables.specs.declared.Entry.{Entry}
use Rattle.renaming.specs.Changes.{entry_at, place}
use Rattle.renaming.specs.Drop.{drop_to}
use Rattle.decoding.specs.Decode.{entry_for}
use Rattle.completing.specs.Complete.{outcome_at, learned}
use Rattle.stealing.specs.Steal.{robbed}
use Rattle.committing.specs.Commit.{halted_by}
use Rattle.renaming.specs.declared.Core.{Core}
use Rattle.window.specs.Calls.{World, Made, made_by, is_commit}
use Rattle.window.specs.declared.Call.{Call}
use Rattle.window.specs.declared.Call.TheVariants.{Decode as decode, Issue as issue, Complete as complete, Commit as commit}
use Rattle.agreement.specs.Lists.{Event, make_all, call_in, accepted_commit, accepted_commits, make_event}
use Rattle.agreement.proofs.View.{view_of}
use Rattle.agreement.proofs.Invariant.{Invariant, Emptied}
use Rattle.agreement.proofs.Runs.{ran, run_on, run_ends}
use Rattle.agreement.proofs.Turns.{Turn, refused, enters, issues, ends, settles, takes, steals, retires, halts, turn}
use Rattle.isa.proofs.ChoiceLaws.{by_choice}
use Rattle.agreement.proofs.Decodes.{decode_core_keeps, issue_core_keeps}
use Rattle.agreement.proofs.Completes.{stop_core_keeps, settle_core_keeps, take_core_keeps, steal_core_keeps}
use Rattle.agreement.proofs.Commits.{halted_emptied, halt_core_stops, retire_core_steps, retire_core_stores, retire_core_keeps}
use Rattle.agreement.proofs.Steady.{Steady, steady_enter, steady_learned, steady_robbed, steady_redirected, steady_retired, halted_halt}
use Rattle.agreement.proofs.Fits.{Fit, world, steady_issued, fit_turn}

-- after n accepted commits
pub data Safe (program : List ℕ) (start : State) (n : ℕ) (w : World) : Type 0 where
  alive : (s : State) → run_of n program start ≡ ran s n (stop 0) → w.core.halt ≡ stop 0 → w.memory ≡ s.memory → get_or s.registers 0 0 ≡ 0
      → Invariant program s (view_of w.core) → Safe program start n w
  dead : (s : State) (k : ℕ) → n ≡ k + 1 → run_of n program start ≡ ran s k w.core.halt → w.core.halt.cause ≢ 0 → w.memory ≡ s.memory → get_or s.registers 0 0 ≡ 0
      → (step_of program s).stop ≡ w.core.halt → Emptied s (view_of w.core) → Safe program start n w

-- what a call adds to the accepted commits
abbrev pub counted : Call → ℕ → ℕ
counted call number = choose (is_commit call) (choose (eqb number 0) 1 0) 0

counted_refused : (call : Call) (n : ℕ) → n ≢ 0 → counted call n ≡ 0
counted_refused (decode guess) n z = refl
counted_refused (issue i) n z = refl
counted_refused (complete i) n z = refl
counted_refused commit n z = rw (ne_eqb n 0 z)

-- a step leaves register 0
pub step_zero : (program : List ℕ) (s : State) → get_or s.registers 0 0 ≡ 0 → get_or (step_of program s).state.registers 0 0 ≡ 0
unfolding step_of
step_zero program s z =
    let f : FetchNumbers = fetch_at program s.address in
    by_choice (λ (x : Step). get_or x.state.registers 0 0 ≡ 0) f.found (step_with f.fields s) (stopped_at s f.stop) (λ e. statement.zero_kept f.fields s ∙ z) (λ e. z)

module _ (program : List ℕ) (start : State) (n : ℕ) (w : World) (f : Fit program w) where
  abbrev m : Core
  m = w.core

  as_made : (call c : Call) (made x : Made) → call ≡ c → made ≡ x → Safe program start (n + counted c x.number) x.world → Safe program start (n + counted call made.number) made.world
  as_made call c made x u e g =
      subst (λ (y : Call). Safe program start (n + counted y made.number) made.world) (sym u) (subst (λ (y : Made). Safe program start (n + counted c y.number) y.world) (sym e) g)

  -- no commit was added
  same : (v : World) (a : ℕ) → a ≡ 0 → Safe program start n v → Safe program start (n + a) v
  same v a z g = subst (λ (x : ℕ). Safe program start x v) (sym (ap (λ (x : ℕ). n + x) z ∙ add-zero n)) g

  -- a machine that runs
  module _ (s : State) (run : run_of n program start ≡ ran s n (stop 0)) (halt : m.halt ≡ stop 0) (memory : w.memory ≡ s.memory) (zeros : get_or s.registers 0 0 ≡ 0) (inv : Invariant program s (view_of m)) where
    on : (b : Core) → Steady m b → Invariant program s (view_of b) → Safe program start (n + 0) (world b w.memory)
    on b t i = same (world b w.memory) 0 refl (alive s run (t.halt ∙ halt) memory zeros i)

    sized : length s.memory ≡ m.setup.bytes
    sized = ap length (sym memory) ∙ f.bytes

    turn_alive : (call : Call) (made : Made) → Turn program w call made → Safe program start (n + counted call made.number) made.world
    turn_alive call made (refused r z e) =
        as_made call call made (made_by m w.memory r) refl e (same w (counted call r) (counted_refused call r z) (alive s run halt memory zeros inv))
    turn_alive call made (enters guess u r l e) =
        as_made call (decode guess) made _ u e (on _ (steady_enter (entry_for m (fetch_at program m.fetch) guess) m) (decode_core_keeps program s m f.kept inv guess l))
    turn_alive call made (issues i u h a b l e) =
        as_made call (issue i) made _ u e (on _ (steady_issued w.memory i m) (issue_core_keeps program s m f.kept inv i w.memory memory h.there h.state a b l))
    turn_alive call made (ends i u h z e) =
        as_made call (complete i) made _ u e (on (place i (stopped_entry (outcome_at m i).stop (entry_at m i)) m) (record { setup = refl; halt = refl })
        (stop_core_keeps program s m f.kept inv i h.there h.state sized z))
    turn_alive call made (settles i u h d e) =
        let x : Entry = completed_entry 0 (entry_at m i) in
        let t = steady_redirected i (outcome_at m i).next (place i x m) in
        as_made call (complete i) made _ u e (on _ (record { setup = t.setup; halt = t.halt })
        (settle_core_keeps program s m f.kept inv i h.at.there h.at.state sized h.calm d))
    turn_alive call made (takes i u h d r e) =
        let b : Core = learned i m.free_registers.head (outcome_at m i).result m in
        let t = steady_redirected i (outcome_at m i).next b in
        let t2 = steady_learned i m.free_registers.head (outcome_at m i).result m in
        as_made call (complete i) made _ u e (on _ (record { setup = t.setup ∙ t2.setup; halt = t.halt ∙ t2.halt })
        (take_core_keeps program s m f.kept inv i h.at.there h.at.state sized h.calm d r))
    turn_alive call made (steals i v u h d r victim y t z e) =
        let register : ℕ = held m.physical (entry_at m v) in
        let b : Core = learned i register (outcome_at m i).result (robbed v m) in
        let t1 = steady_redirected i (outcome_at m i).next b in
        let t2 = steady_learned i register (outcome_at m i).result (robbed v m) in
        let t3 = steady_robbed v m in
        as_made call (complete i) made _ u e (on _ (record { setup = t1.setup ∙ t2.setup ∙ t3.setup; halt = t1.halt ∙ t2.halt ∙ t3.halt })
        (steal_core_keeps program s m f.kept inv i h.at.there h.at.state sized h.calm d v y t z r))
    turn_alive call made (retires u h c e) =
        let x : Entry = entry_at m 0 in
        as_made call commit made _ u e
        (alive (step_of program s).state (run_on n n program start s run (retire_core_steps program s m f.kept inv h.there h.state c)) ((steady_retired m).halt ∙ halt)
        (ap (stored x.instruction x.first x.second) memory ∙ retire_core_stores program s m f.kept inv h.there h.state c)
        (step_zero program s zeros) (retire_core_keeps program s m f.kept inv h.there h.state c))
    turn_alive call made (halts u h c e) =
        let why : Stop = (entry_at m 0).stop in
        let q : (step_of program s).stop ≡ why = halt_core_stops program s m f.kept inv h.there h.state c in
        let now : (step_of program s).stop ≡ (halted_by why (drop_to 0 m)).halt = q ∙ sym (halted_halt why (drop_to 0 m)) in
        as_made call commit made _ u e
        (dead s n refl (run_ends n n program start s run (λ z. c (ap (λ (x : Stop). x.cause) (sym q) ∙ z)) ∙ ap (ran s n) now)
        (λ z. c (ap (λ (x : Stop). x.cause) (sym (halted_halt why (drop_to 0 m))) ∙ z)) memory zeros now (halted_emptied program s m f.kept inv why))

  -- a halted machine refuses
  turn_dead : (call : Call) (made : Made) → m.halt.cause ≢ 0 → Safe program start n w → Turn program w call made → Safe program start (n + counted call made.number) made.world
  turn_dead call made d g (refused r z e) = as_made call call made (made_by m w.memory r) refl e (same w (counted call r) (counted_refused call r z) g)
  turn_dead call made d g (enters guess u r l e) = absurd (d r)
  turn_dead call made d g (issues i u h a b l e) = absurd (d h.runs)
  turn_dead call made d g (ends i u h z e) = absurd (d h.runs)
  turn_dead call made d g (settles i u h z e) = absurd (d h.at.runs)
  turn_dead call made d g (takes i u h z r e) = absurd (d h.at.runs)
  turn_dead call made d g (steals i v u h z r victim y t o e) = absurd (d h.at.runs)
  turn_dead call made d g (retires u h c e) = absurd (d h.runs)
  turn_dead call made d g (halts u h c e) = absurd (d h.runs)

  pub turn_safe : (call : Call) (made : Made) → Safe program start n w → Turn program w call made → Safe program start (n + counted call made.number) made.world
  turn_safe call made (alive s run halt memory zeros inv) t = turn_alive s run halt memory zeros inv call made t
  turn_safe call made (dead s k l run halt memory zeros why empty) t = turn_dead call made halt (dead s k l run halt memory zeros why empty) t

-- every list
pub record Reached (program : List ℕ) (start : State) (n : ℕ) (w : World) : Type 0 where
  pub fit : Fit program w
  pub safe : Safe program start n w

pub make_reached : (program : List ℕ) (start : State) (n : ℕ) (e : Event) (w : World) → Reached program start n w
    → Reached program start (n + accepted_commit e (make_event program e w).number) (make_event program e w).world
make_reached program start n e w r =
    record {
      fit = fit_turn program w r.fit (call_in e) (make_event program e w) (turn program e w);
      safe = turn_safe program start n w r.fit (call_in e) (make_event program e w) r.safe (turn program e w);
    }

pub all_reached : (program : List ℕ) (start : State) (events : List Event) (n : ℕ) (w : World) → Reached program start n w
    → Reached program start (n + accepted_commits program events w) (make_all program events w)
unfolding make_all accepted_commits
all_reached program start [] n w r = subst (λ (x : ℕ). Reached program start x w) (sym (add-zero n)) r
all_reached program start (e ∷ events) n w r =
    let made : Made = make_event program e w in
    subst (λ (x : ℕ). Reached program start x (make_all program events made.world)) (add_assoc n (accepted_commit e made.number) (accepted_commits program events made.world))
    (all_reached program start events (n + accepted_commit e made.number) made.world (make_reached program start n e w r))
