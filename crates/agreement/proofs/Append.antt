-- An entry that enters keeps the invariant: with a destination, its new name stands for what the in-order step will leave there.
use Prim.Native.Nat.{ℕ, zero, suc, ◌<◌}
use mathlib.Core.Path.{◌≡◌, refl, ap, sym, ◌∙◌}
use mathlib.Core.List.{List, [], ◌∷◌, map}
use native.Mathlib.Omega.{arith}
use lib.ListN.{length, get_or, set, length-map}
use Rattle.reference.specs.Fetch.{fetch_at}
use Rattle.reference.specs.Step.{State, destination, read_register, step_of}
use Rattle.tables.specs.declared.Entry.{Entry}
use Rattle.decoding.specs.Decode.{entering_stop}
use Rattle.agreement.proofs.View.{View, append}
use Rattle.agreement.proofs.Ghost.{Ghost}
use Rattle.agreement.proofs.Chains.{execution_of, Status, waits, stops, Executes, last_state}
use Rattle.agreement.proofs.Pools.{name_of, NamePool, Live}
use Rattle.agreement.proofs.Invariant.{Accounting, Invariant}
use Rattle.agreement.proofs.Tests.{equal, apart, eq?}
use Rattle.agreement.proofs.Steps.{step_ended, read_zero}
use Rattle.agreement.proofs.Walks.{executed_append, last_address}
use Rattle.agreement.proofs.GhostLaws.{executed_ghost, agree_ghost}
use Rattle.agreement.proofs.Entering.{Enters, append_accounted_without, append_accounted_with, new_values, new_writers, new_here, uncommitted, others}

-- a window that is not full leaves a name
pub name_left : (window : ℕ) (physical committed names : List ℕ) (head : ℕ) (link free : List ℕ) → NamePool window committed names head link free → Live physical committed names free
    → length names < window → (n : ℕ) × (ns : List ℕ) × NamePool window committed names head link (n ∷ ns) × Live physical committed names (n ∷ ns)
name_left window physical committed names head link [] pool live h = absurd (omega (arith, pool.count))
name_left window physical committed names head link (n ∷ ns) pool live h = (n, ns, pool, live)

module _ (p : List ℕ) (s : State) (c : View) (invariant : Invariant p s c) (x : Entry) (enters : Enters p c x) (space : length c.entries < c.setup.window) where
  abbrev g : Ghost
  g = invariant.ghost

  abbrev m : List ℕ
  m = invariant.committed

  accounting : Accounting g m c
  accounting = invariant.accounting

  -- the in-order state behind the entries, where it is fetched
  abbrev t : State
  t = last_state p s (map execution_of c.entries)

  entering_status : Status p t (execution_of x)
  entering_status =
      let at : c.fetch ≡ t.address = invariant.fetching in
      elim (eq? (entering_stop (fetch_at p c.fetch)).cause 0) [
        | equal q u ↦ waits (enters.waits q).0 (enters.waits q).1 (rw (← at) q)
        | apart q u ↦ stops (enters.stops q).0 (rw (enters.stops q).1 q) (step_ended p t (rw (← at) q) ∙ rw (← at) (sym (enters.stops q).1))
      ]

  executes_new : (h : Ghost) → get_or h.value x.name 0 ≡ read_register (step_of p t).state.registers (destination x.instruction) → Executes p h t (execution_of x)
  executes_new h v =
      record {
        address = enters.address ∙ invariant.fetching;
        instruction = enters.instruction ∙ ap (λ (a : ℕ). (fetch_at p a).fields) invariant.fetching;
        value = v;
        status = entering_status;
      }

  append_without : x.destination ≡ 0 → Invariant p s (append 0 x c)
  unfolding append
  append_without z =
      record {
        ghost = g;
        committed = m;
        accounting = append_accounted_without g m c accounting p x enters space z;
        agree = invariant.agree;
        executed = executed_append p g s c.entries x invariant.executed
            (executes_new g (ap (λ (n : ℕ). get_or g.value n 0) (enters.unnamed z) ∙ accounting.contents.valued.zero_value ∙ sym (ap (read_register _) (sym enters.written ∙ z) ∙ read_zero _)));
        next = invariant.next;
        fetching = sym (last_address p s c.entries x);
      }

  module _ (d : ℕ) (dest : x.destination ≡ suc d) (n : ℕ) (ns : List ℕ)
      (pool : NamePool c.setup.window m (map name_of c.entries) c.free_names.head c.free_names.link (n ∷ ns)) (live : Live c.physical m (map name_of c.entries) (n ∷ ns)) where
    abbrev v : ℕ
    v = read_register (step_of p t).state.registers (destination x.instruction)

    abbrev h : Ghost
    h = record { value = set g.value n v; writer = set g.writer n (suc d) }

    append_with : Invariant p s (append (suc d) x c)
    unfolding append
    append_with =
        let values = new_values g m c accounting p x enters space d n v ns pool live dest in
        let writers = new_writers g m c accounting p x enters space d n v ns pool live dest in
        record {
          ghost = h;
          committed = m;
          accounting = append_accounted_with g m c accounting p x enters space d n v ns pool live dest;
          agree = agree_ghost g h n values writers m s.registers (uncommitted g m c accounting p x enters space d n v ns pool live dest) invariant.agree;
          executed = executed_append p h s c.entries x
              (executed_ghost g h n values writers p s c.entries (others g m c accounting p x enters space d n v ns pool live dest) invariant.executed)
              (executes_new h (new_here g m c accounting p x enters space d n v ns pool live dest));
          next = invariant.next;
          fetching = sym (last_address p s c.entries x);
        }

  pub append_keeps : Invariant p s (append x.destination x c)
  append_keeps = cases x.destination refl
    where
      cases : (d : ℕ) → x.destination ≡ d → Invariant p s (append d x c)
      cases zero e = append_without e
      cases (suc d) e =
          let f : (n : ℕ) × (ns : List ℕ) × NamePool c.setup.window m (map name_of c.entries) c.free_names.head c.free_names.link (n ∷ ns) × Live c.physical m (map name_of c.entries) (n ∷ ns) =
          name_left c.setup.window c.physical m (map name_of c.entries) c.free_names.head c.free_names.link accounting.free_names accounting.name_pool accounting.live (rw length-map space) in
          append_with d e f.0 f.1 f.2 f.3
