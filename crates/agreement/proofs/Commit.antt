-- Commit: the committed state makes one in-order step; with a cause the in-order run stops there with that cause, and the machine halts.
use Prim.Native.Nat.{ℕ, ◌<◌, ◌≤◌}
use mathlib.Core.Path.{◌≡◌, refl, ap, sym, ◌∙◌}
use mathlib.Core.Logic.{◌≢◌}
use mathlib.Core.List.{List, [], ◌∷◌, map}
use native.Mathlib.Omega.{arith}
use lib.ListN.{length, get_or, set}
use Rattle.execution.specs.Memory.{stored}
use Rattle.reference.specs.Step.{State, state, read_register, second_of, step_of}
use Rattle.execution.specs.declared.Stop.{Stop}
use Rattle.tables.specs.Entry.{empty_entry}
use Rattle.tables.specs.declared.State.TheVariants.{Completed}
use Rattle.tables.specs.declared.Entry.{Entry}
use Rattle.agreement.proofs.View.{View, drops_to, retire, steer}
use Rattle.agreement.proofs.Chains.{renaming_of, Renamed, RenameChain, last_names, execution_of, waits, reads, done, stops, Executes, followed, ExecutionChain, last_state}
use Rattle.agreement.proofs.Contents.{holding, without, stopped, early, HoldsIn}
use Rattle.agreement.proofs.Invariant.{Invariant, Emptied}
use Rattle.agreement.proofs.Tests.{impossible}
use Rattle.agreement.proofs.Steps.{step_stored}
use Rattle.agreement.proofs.Walks.{executes_at, agree_next}
use Rattle.agreement.proofs.Placing.{steer_accounted}
use Rattle.agreement.proofs.Drop.{drops_accounted, drops_entries}
use Rattle.agreement.proofs.Unchanged.{drops_next}
use Rattle.agreement.proofs.Retire.{retire_accounted}

module _ (p : List ℕ) (s : State) (c : View) (invariant : Invariant p s c) (some : 0 < length c.entries) (now : (get_or c.entries 0 empty_entry).state ≡ Completed) where
  abbrev e : Entry
  e = get_or c.entries 0 empty_entry

  executes : Executes p invariant.ghost s (execution_of e)
  unfolding last_state
  executes = executes_at p invariant.ghost s c.entries 0 some invariant.executed

  holds : HoldsIn c.physical e
  holds = invariant.accounting.contents.holds 0 empty_entry some

  -- with a cause the in-order step stops with it
  pub halt_stops : e.stop.cause ≢ 0 → (step_of p s).stop ≡ e.stop
  halt_stops z = elim executes.status [
    | waits h clean x ↦ impossible (cc)
    | reads h a b clean x ↦ impossible (cc)
    | done h a b clean x y w ↦ absurd (z clean)
    | stops h y w ↦ w
  ]

  module _ (clean : e.stop.cause ≡ 0) where
    pub retire_steps : (step_of p s).stop.cause ≡ 0
    retire_steps = elim executes.status [
      | waits h q x ↦ impossible (cc)
      | reads h a b q x ↦ impossible (cc)
      | done h a b q x y w ↦ y
      | stops h y w ↦ absurd (y clean)
    ]

    address_right : (step_of p s).state.address ≡ e.predicted
    address_right = elim executes.status [
      | waits h q x ↦ impossible (cc)
      | reads h a b q x ↦ impossible (cc)
      | done h a b q x y w ↦ w
      | stops h y w ↦ absurd (y clean)
    ]

    -- the data as the step leaves them
    pub retire_stores : (step_of p s).state.memory ≡ stored e.instruction e.first e.second s.memory
    retire_stores = elim executes.status [
      | waits h q x ↦ impossible (cc)
      | reads h a b q x ↦ impossible (cc)
      | done h a b q x y w ↦
          step_stored p s e.instruction x executes.instruction y
          ∙ ap (λ (n : ℕ). stored e.instruction n (second_of s e.instruction) s.memory) (sym a) ∙ ap (λ (n : ℕ). stored e.instruction e.first n s.memory) (sym b)
      | stops h y w ↦ absurd (y clean)
    ]

    held : HoldsIn c.physical e → e.name ≢ 0 → get_or c.physical e.name 0 ≢ 0
    held (holding a b x y) z = y
    held (without a b x) z = absurd (z x)
    held (stopped a b x) z = absurd (b clean)
    held (early a x) z = absurd (a now)

    pub retire_keeps : Invariant p (step_of p s).state (retire c)
    unfolding retire ExecutionChain RenameChain last_state
    retire_keeps = cases c.entries refl some (held holds) (ap (λ (a : ℕ). state (step_of p s).state.registers a (step_of p s).state.memory) (sym address_right))
      where
        cases : (es : List Entry) → c.entries ≡ es → 0 < length es → ((get_or es 0 empty_entry).name ≢ 0 → get_or c.physical (get_or es 0 empty_entry).name 0 ≢ 0)
            → followed p s (get_or es 0 empty_entry).predicted ≡ (step_of p s).state → Invariant p (step_of p s).state (retire c)
        cases [] q l y u = absurd (omega arith)
        cases (x ∷ es) q l y u =
            let r : Executes p invariant.ghost s (execution_of x) × ExecutionChain p invariant.ghost (followed p s x.predicted) (map execution_of es) = rw q at invariant.executed in
            let n : Renamed invariant.ghost invariant.committed (renaming_of x) × RenameChain invariant.ghost (set invariant.committed x.destination x.name) (map renaming_of es) =
            rw q at invariant.accounting.renamed in
            let f : c.fetch ≡ (last_state p (followed p s x.predicted) (map execution_of es)).address = rw q at invariant.fetching in
            record {
              ghost = invariant.ghost;
              committed = set invariant.committed x.destination x.name;
              accounting = retire_accounted invariant.ghost invariant.committed c invariant.accounting x es q y;
              agree = agree_next p invariant.ghost invariant.committed s x invariant.accounting.writers.size invariant.agree n.0 r.0;
              executed = rw q (rw u at r.1);
              next = rw q (ap (λ (t : State). t.address) u);
              fetching = rw q (f ∙ ap (λ (t : State). (last_state p t (map execution_of es)).address) u);
            }

-- all entries are dropped: the committed state is what is left
pub drops_emptied : (p : List ℕ) (s : State) (c : View) → Invariant p s c → Emptied s (drops_to 0 (length c.entries) c)
drops_emptied p s c invariant =
    record {
      ghost = invariant.ghost;
      committed = invariant.committed;
      accounting = drops_accounted invariant.ghost invariant.committed 0 (length c.entries) c invariant.accounting (omega arith);
      agree = invariant.agree;
      next = drops_next 0 (length c.entries) c ∙ invariant.next;
      empty = drops_entries 0 (length c.entries) c (omega arith);
    }

-- the machine halts, fetch and next address staying
pub halt_emptied : (s : State) (c : View) (fetch : ℕ) (why : Stop) → Emptied s c → Emptied s (steer fetch c.next why c)
halt_emptied s c fetch why a =
    record {
      ghost = a.ghost;
      committed = a.committed;
      accounting = steer_accounted a.ghost a.committed c fetch c.next why a.accounting;
      agree = a.agree;
      next = a.next;
      empty = a.empty;
    }

-- what the general map then gives of a register
pub emptied_value : (s : State) (c : View) → Emptied s c → (r : ℕ) → 1 ≤ r → r < 32 → get_or c.values (get_or c.registers r 0) 0 ≡ read_register s.registers r
unfolding last_names
emptied_value s c a r l b =
    let n : c.names ≡ a.committed = rw a.empty at a.accounting.shows in
    let q : get_or c.registers r 0 ≡ get_or c.physical (get_or a.committed r 0) 0 = a.accounting.general.gives r ∙ ap (λ (x : List ℕ). get_or c.physical (get_or x r 0) 0) n in
    ap (λ (x : ℕ). get_or c.values x 0) q ∙ a.accounting.contents.valued.held (get_or a.committed r 0) (a.accounting.live.kept r l b) ∙ a.agree.values r b

-- and that it has one
pub emptied_register : (s : State) (c : View) → Emptied s c → (r : ℕ) → 1 ≤ r → r < 32 → get_or c.registers r 0 ≢ 0
unfolding last_names
emptied_register s c a r l b z =
    let n : c.names ≡ a.committed = rw a.empty at a.accounting.shows in
    a.accounting.live.kept r l b (sym (a.accounting.general.gives r ∙ ap (λ (x : List ℕ). get_or c.physical (get_or x r 0) 0) n) ∙ z)
