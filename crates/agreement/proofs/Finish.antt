-- Completion, in its ways: with a cause, without a destination, with a free register, with the register of a younger entry.
use Prim.Native.Nat.{ℕ, ◌<◌}
use mathlib.Core.Path.{◌≡◌, refl, ap, sym, ◌∙◌}
use mathlib.Core.Logic.{◌≢◌}
use mathlib.Core.List.{List, ◌∷◌, map}
use native.Mathlib.Omega.{arith}
use lib.ListN.{length, get_or, set, take, length-set, length-map, get_or-map}
use lib.Seq.{get_or-set_other}
use Rattle.execution.specs.Execute.{executed, Outcome}
use Rattle.reference.specs.Step.{State, destination}
use Rattle.tables.specs.Entry.{empty_entry, waiting_entry, completed_entry, stopped_entry}
use Rattle.tables.specs.declared.State.TheVariants.{Issued, Completed}
use Rattle.tables.specs.declared.Entry.{Entry}
use Rattle.completing.specs.Complete.{outcome_of}
use Rattle.agreement.proofs.View.{View, inform_entry, placed, release, learn, redirect}
use Rattle.agreement.proofs.Ghost.{Ghost}
use Rattle.agreement.proofs.Chains.{renaming_of, Renamed, Execution, execution_of, waits, reads, done, stops, Executes}
use Rattle.agreement.proofs.Contents.{ShownIn, holding, without, stopped, early, HoldsIn}
use Rattle.agreement.proofs.Pools.{RegisterPool}
use Rattle.agreement.proofs.Invariant.{Invariant}
use Rattle.agreement.proofs.Tests.{impossible}
use Rattle.agreement.proofs.RegisterPools.{put_head_lem, pool_some}
use Rattle.agreement.proofs.Every.{map_keep}
use Rattle.agreement.proofs.Walks.{names_at, state_at, renamed_at, executes_at, agree_at, executed_set, state_set, last_length}
use Rattle.agreement.proofs.Placing.{placed_accounted, placed_keeps}
use Rattle.agreement.proofs.Learn.{no_register, release_accounted, learn_accounted}
use Rattle.agreement.proofs.Complete.{issued_read, complete_executes, complete_value, stop_executes}
use Rattle.agreement.proofs.Redirect.{redirect_keeps}

module _ (p : List ℕ) (s : State) (c : View) (invariant : Invariant p s c) (i : ℕ) (inside : i < length c.entries) where
  abbrev g : Ghost
  g = invariant.ghost

  abbrev m : List ℕ
  m = invariant.committed

  abbrev e : Entry
  e = get_or c.entries i empty_entry

  -- the in-order state before it
  abbrev t : State
  t = state_at p s c.entries i

  executes : Executes p g t (execution_of e)
  executes = executes_at p g s c.entries i inside invariant.executed

  renamed : Renamed g (names_at m c.entries i) (renaming_of e)
  renamed = renamed_at g m c.entries i inside invariant.accounting.renamed

  shown : ShownIn c.physical e
  shown = invariant.accounting.contents.shown i empty_entry inside

  holds : HoldsIn c.physical e
  holds = invariant.accounting.contents.holds i empty_entry inside

  -- a destination has a name
  pub named : e.destination ≢ 0 → e.name ≢ 0
  named z q = z (cc (renamed.writer, invariant.accounting.writers.writers 0 (omega arith), invariant.accounting.name_pool.zero_name))

  module _ (size : ℕ) (sized : length s.memory ≡ size) (now : e.state ≡ Issued) (o : Outcome) (is : outcome_of size e ≡ o) where
    sized_here : length t.memory ≡ size
    sized_here = last_length p s (take i c.entries) ∙ sized

    unheld : get_or c.physical e.name 0 ≡ 0
    unheld = no_register c.physical e.state e.stop.cause e.name holds (λ z. impossible (cc))

    clean : e.stop.cause ≡ 0
    clean = (issued_read p g t e size sized_here executes now).clean

    -- with a cause: only state and cause change
    pub stop_keeps : o.stop.cause ≢ 0 → Invariant p s (placed i (stopped_entry o.stop e) c)
    stop_keeps z =
        placed_keeps p s c i (stopped_entry o.stop e) invariant inside refl refl shown (stopped refl z unheld) (stop_executes p g t e size sized_here executes now o is z)

    module _ (goes : o.stop.cause ≡ 0) where
      pub finish_keeps_without : e.destination ≡ 0 → Invariant p s (redirect i o.next (placed i (completed_entry 0 e) c))
      finish_keeps_without z =
          redirect_keeps p g m s c (placed i (completed_entry 0 e) c) i o.next (completed_entry 0 e) inside invariant.agree invariant.executed invariant.fetching
          (placed_accounted g m c i (completed_entry 0 e) invariant.accounting inside refl shown (without refl clean (renamed.unnamed z)))
          refl invariant.next refl refl (complete_executes p g t e size sized_here executes now o is 0 goes)

      result_right : e.destination ≢ 0 → o.result ≡ get_or g.value e.name 0
      result_right z =
          complete_value p g t e size sized_here executes now o is goes
          (agree_at p g m s c.entries i invariant.accounting.writers.size invariant.agree invariant.accounting.renamed invariant.executed).size
          (omega (arith, renamed.written, renamed.small)) (λ q. z (renamed.written ∙ q))

      pub finish_keeps_free : e.destination ≢ 0 → c.free_registers.head ≢ 0 → Invariant p s (redirect i o.next (learn i o.result c))
      unfolding learn
      finish_keeps_free z h =
          let q : (n : ℕ) × (ns : List ℕ) × RegisterPool c.setup.registers c.physical c.free_registers.head c.free_registers.link (n ∷ ns) =
          pool_some c.setup.registers c.physical c.free_registers.head c.free_registers.link invariant.accounting.free_registers invariant.accounting.register_pool h in
          redirect_keeps p g m s c (learn i o.result c) i o.next (completed_entry o.result e) inside invariant.agree invariant.executed invariant.fetching
          (learn_accounted g m c invariant.accounting i inside (named z) o.result q.0 q.1 q.2 now clean (result_right z))
          (map_keep execution_of (inform_entry e.name c.free_registers.head) (set c.entries i (completed_entry o.result e)) (λ x. refl))
          invariant.next refl refl (complete_executes p g t e size sized_here executes now o is o.result goes)

  -- an entry that holds a register loses it, and waits again
  pub release_keeps : e.state ≡ Completed → get_or c.physical e.name 0 ≢ 0 → Invariant p s (release i c)
  unfolding release
  release_keeps now has =
      record {
        ghost = g;
        committed = m;
        accounting = release_accounted g m c invariant.accounting i inside (λ z. has (cc invariant.accounting.contents.valued.zero_register));
        agree = invariant.agree;
        executed = rw same (executed_set p g s c.entries i (waiting_entry e) inside refl again invariant.executed);
        next = invariant.next;
        fetching = invariant.fetching ∙ rw same (ap (λ (x : State). x.address) (sym (state_set p s c.entries i (waiting_entry e) refl)));
      }
    where
      same : map execution_of (map (inform_entry e.name 0) (set c.entries i (waiting_entry e))) ≡ map execution_of (set c.entries i (waiting_entry e))
      same = map_keep execution_of (inform_entry e.name 0) (set c.entries i (waiting_entry e)) (λ y. refl)

      cause_of : HoldsIn c.physical e → e.stop.cause ≡ 0
      cause_of (holding a b x y) = b
      cause_of (without a b x) = b
      cause_of (stopped a b x) = absurd (has x)
      cause_of (early a x) = absurd (has x)

      again : Executes p g t (execution_of (waiting_entry e))
      again =
          record {
            address = executes.address;
            instruction = executes.instruction;
            value = executes.value;
            status = elim executes.status [
              | waits h clean x ↦ impossible (cc)
              | reads h a b clean x ↦ impossible (cc)
              | done h a b clean x y z ↦ waits refl refl x
              | stops h z y ↦ absurd (z (cause_of holds))
            ];
          }

-- a released register is the head of the pool
pub released_head : (c : View) (j : ℕ) → get_or c.physical (get_or c.entries j empty_entry).name 0 ≢ 0 → (release j c).free_registers.head ≢ 0
unfolding release
released_head c j h z = h (sym (put_head_lem (get_or c.physical (get_or c.entries j empty_entry).name 0) c.free_registers.head h) ∙ z)

-- an entry that is not released is executed as before
pub released_other : (c : View) (i j : ℕ) → i ≢ j → execution_of (get_or (release j c).entries i empty_entry) ≡ execution_of (get_or c.entries i empty_entry)
unfolding release
released_other c i j h =
    let f : Entry = get_or c.entries j empty_entry in
    sym (get_or-map execution_of (map (inform_entry f.name 0) (set c.entries j (waiting_entry f))) i empty_entry)
    ∙ ap (λ (l : List Execution). get_or l i (execution_of empty_entry)) (map_keep execution_of (inform_entry f.name 0) (set c.entries j (waiting_entry f)) (λ y. refl))
    ∙ get_or-map execution_of (set c.entries j (waiting_entry f)) i empty_entry ∙ ap execution_of (get_or-set_other c.entries j i (waiting_entry f) empty_entry h)

pub released_length : (c : View) (j : ℕ) → length (release j c).entries ≡ length c.entries
unfolding release
released_length c j = rw (length-map, length-set)

-- with the register of the entry at j, which holds one
module _ (p : List ℕ) (s : State) (c : View) (invariant : Invariant p s c) (i : ℕ) (inside : i < length c.entries) (size : ℕ) (sized : length s.memory ≡ size)
    (now : (get_or c.entries i empty_entry).state ≡ Issued) (o : Outcome) (is : outcome_of size (get_or c.entries i empty_entry) ≡ o) (goes : o.stop.cause ≡ 0)
    (written : (get_or c.entries i empty_entry).destination ≢ 0) (j : ℕ) (other : i ≢ j) (there : j < length c.entries)
    (completed : (get_or c.entries j empty_entry).state ≡ Completed) (has : get_or c.physical (get_or c.entries j empty_entry).name 0 ≢ 0) where
  abbrev r : View
  r = release j c

  after : Invariant p s r
  after = release_keeps p s c invariant j there completed has

  like : execution_of (get_or r.entries i empty_entry) ≡ execution_of (get_or c.entries i empty_entry)
  like = released_other c i j other

  inside_r : i < length r.entries
  inside_r = rw (released_length c j) inside

  -- its destination, by its instruction
  written_r : (get_or r.entries i empty_entry).destination ≢ 0
  written_r q =
      written ((renamed p s c invariant i inside).written ∙ ap (λ (x : Execution). destination x.instruction) (sym like) ∙ sym (renamed p s r after i inside_r).written ∙ q)

  head : r.free_registers.head ≢ 0
  head = released_head c j has

  pub finish_keeps_theft : Invariant p s (redirect i o.next (learn i o.result (release j c)))
  finish_keeps_theft =
      finish_keeps_free p s r after i inside_r size sized (ap (λ (x : Execution). x.state) like ∙ now) o
      (ap (λ (x : Execution). executed size x.instruction x.address x.first x.second) like ∙ is) goes written_r head
