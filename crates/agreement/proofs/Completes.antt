-- Completion on the machine keeps the invariant, in each of its ways.
use Prim.Native.Nat.{ℕ, ◌<◌}
use mathlib.Core.Path.{◌≡◌, sym, ap, subst, ◌∙◌}
use mathlib.Core.Logic.{◌≢◌}
use mathlib.Core.List.{List, ◌∷◌, map}
use native.Mathlib.Omega.{arith}
use lib.ListN.{length, get_or, set, take, length-set, length-map, get_or-map}
use lib.Seq.{get_or-set_same, get_or-set_other}
use Rattle.laws.proofs.Lists.{get_d_within}
use Rattle.reference.specs.Step.{State}
use Rattle.execution.specs.Execute.{Outcome}
use Rattle.tables.specs.Entry.{empty_entry, held, completed_entry, stopped_entry, waiting_entry}
use Rattle.tables.specs.declared.State.TheVariants.{Issued, Completed}
use Rattle.tables.specs.declared.Entry.{Entry}
use Rattle.renaming.specs.Changes.{entry_at, place}
use Rattle.completing.specs.Complete.{outcome_of, outcome_at, learned, redirected}
use Rattle.stealing.specs.Steal.{robbed}
use Rattle.renaming.specs.declared.Core.{Core}
use Rattle.agreement.proofs.View.{View, view_of, inform_entry, placed, release, learn, redirect}
use Rattle.agreement.proofs.Ghost.{Ghost}
use Rattle.agreement.proofs.Chains.{renaming_of, Renamed, execution_of, Executes}
use Rattle.agreement.proofs.Pools.{RegisterPool}
use Rattle.agreement.proofs.Invariant.{Accounting, Invariant}
use Rattle.agreement.proofs.Tests.{equal, apart, eq?}
use Rattle.agreement.proofs.RegisterPools.{pool_some, held_outside}
use Rattle.agreement.proofs.Walks.{names_at, state_at, executes_at, agree_at, last_length}
use Rattle.agreement.proofs.Learn.{learn_accounted}
use Rattle.agreement.proofs.Complete.{issued_read, complete_value}
use Rattle.agreement.proofs.Finish.{released_head, released_length, named, stop_keeps, finish_keeps_without, finish_keeps_free, release_keeps, finish_keeps_theft}
use Rattle.agreement.proofs.Victims.{held_some}
use Rattle.agreement.proofs.Stores.{look_get}
use Rattle.agreement.proofs.Kept.{Kept, kept_place, kept_robbed, kept_learned}
use Rattle.agreement.proofs.Tidy.{Plain, Tidy}
use Rattle.agreement.proofs.Tidied.{accounted_renamed, accounted_tidy}
use Rattle.agreement.proofs.Views.{seen_length, seen_entry, view_place, view_redirected}
use Rattle.agreement.proofs.Learns.{Named, view_taken, view_stolen}

-- an entry is placed
tidy_placed : (i : ℕ) (x : Entry) (c : View) → i < length c.entries → Tidy c → Plain c.physical x → Tidy (placed i x c)
tidy_placed i x c inside t p =
    record {
      physical = t.physical;
      names = t.names;
      registers = t.registers;
      register_link = t.register_link;
      name_link = t.name_link;
      entries = λ j h. elim (eq? j i) [
        | equal q u ↦ subst (Plain c.physical) (sym (ap (λ (n : ℕ). get_or (set c.entries i x) n empty_entry) q ∙ get_or-set_same c.entries i x empty_entry inside)) p
        | apart q u ↦ subst (Plain c.physical) (sym (get_or-set_other c.entries i j x empty_entry q)) (t.entries j (omega (arith, length-set c.entries i x, h)))
      ];
    }

-- the entry at i is completed with the head of the pool
module _ (p : List ℕ) (s : State) (c : View) (invariant : Invariant p s c) (i : ℕ) (inside : i < length c.entries) (size : ℕ) (sized : length s.memory ≡ size)
    (now : (get_or c.entries i empty_entry).state ≡ Issued) (o : Outcome) (is : outcome_of size (get_or c.entries i empty_entry) ≡ o) (goes : o.stop.cause ≡ 0)
    (written : (get_or c.entries i empty_entry).destination ≢ 0) (head : c.free_registers.head ≢ 0) where
  learn_tidy : Tidy (learn i o.result c)
  learn_tidy =
      let g : Ghost = invariant.ghost in
      let m : List ℕ = invariant.committed in
      let a : Accounting g m c = invariant.accounting in
      let t : State = state_at p s c.entries i in
      let e : Entry = get_or c.entries i empty_entry in
      let sized_here : length t.memory ≡ size = last_length p s (take i c.entries) ∙ sized in
      let executes : Executes p g t (execution_of e) = executes_at p g s c.entries i inside invariant.executed in
      let renamed : Renamed g (names_at m c.entries i) (renaming_of e) = accounted_renamed g m c a i inside in
      let value : o.result ≡ get_or g.value e.name 0 =
      complete_value p g t e size sized_here executes now o is goes (agree_at p g m s c.entries i a.writers.size invariant.agree a.renamed invariant.executed).size
      (omega (arith, renamed.written, renamed.small)) (λ q. written (renamed.written ∙ q)) in
      let q : (n : ℕ) × (ns : List ℕ) × RegisterPool c.setup.registers c.physical c.free_registers.head c.free_registers.link (n ∷ ns) =
      pool_some c.setup.registers c.physical c.free_registers.head c.free_registers.link a.free_registers a.register_pool head in
      accounted_tidy g m (learn i o.result c)
      (learn_accounted g m c a i inside (named p s c invariant i inside written) o.result q.0 q.1 q.2 now (issued_read p g t e size sized_here executes now).clean value)

-- an entry that is not released keeps all but its operands
released_entry : (c : View) (i j : ℕ) → i < length c.entries → i ≢ j → get_or (release j c).entries i empty_entry ≡ inform_entry (get_or c.entries j empty_entry).name 0 (get_or c.entries i empty_entry)
unfolding release
released_entry c i j h d =
    let f : Entry = get_or c.entries j empty_entry in
    let l : List Entry = set c.entries j (waiting_entry f) in
    let n : length (map (inform_entry f.name 0) l) ≡ length c.entries = length-map l (inform_entry f.name 0) ∙ length-set c.entries j (waiting_entry f) in
    get_d_within (map (inform_entry f.name 0) l) i empty_entry (inform_entry f.name 0 empty_entry) (omega arith)
    ∙ get_or-map (inform_entry f.name 0) l i empty_entry ∙ ap (inform_entry f.name 0) (get_or-set_other c.entries j i (waiting_entry f) empty_entry d)

module _ (program : List ℕ) (s : State) (m : Core) (k : Kept m) (invariant : Invariant program s (view_of m)) (i : ℕ) (h : i < m.count) (now : (entry_at m i).state ≡ Issued)
    (sized : length s.memory ≡ m.setup.bytes) where
  abbrev c : View
  c = view_of m

  abbrev o : Outcome
  o = outcome_at m i

  q : get_or c.entries i empty_entry ≡ entry_at m i
  q = seen_entry m i h

  inside : i < length c.entries
  inside = let l = seen_length m k in omega arith

  now_seen : (get_or c.entries i empty_entry).state ≡ Issued
  now_seen = ap (λ (e : Entry). e.state) q ∙ now

  is : outcome_of m.setup.bytes (get_or c.entries i empty_entry) ≡ o
  is = ap (outcome_of m.setup.bytes) q

  tidy : Tidy c
  tidy = accounted_tidy invariant.ghost invariant.committed c invariant.accounting

  pub stop_core_keeps : o.stop.cause ≢ 0 → Invariant program s (view_of (place i (stopped_entry o.stop (entry_at m i)) m))
  stop_core_keeps z =
      subst (Invariant program s) (sym (view_place i (stopped_entry o.stop (entry_at m i)) m h))
      (subst (λ (e : Entry). Invariant program s (placed i (stopped_entry o.stop e) c)) q (stop_keeps program s c invariant i inside m.setup.bytes sized now_seen o is z))

  module _ (goes : o.stop.cause ≡ 0) where
    plain_completed : Plain m.physical (completed_entry 0 (entry_at m i))
    plain_completed =
        let p : Plain m.physical (entry_at m i) = subst (Plain m.physical) q (tidy.entries i inside) in
        record { nameless = p.nameless; baseless = p.baseless; holds = look_get m.physical (entry_at m i).name tidy.physical }

    pub settle_core_keeps : (entry_at m i).destination ≡ 0 → Invariant program s (view_of (redirected i o.next (place i (completed_entry 0 (entry_at m i)) m)))
    settle_core_keeps z =
        let x : Entry = completed_entry 0 (entry_at m i) in
        let v : view_of (place i x m) ≡ placed i x c = view_place i x m h in
        subst (Invariant program s) (sym (view_redirected i o.next (place i x m) (kept_place m k i x) (subst Tidy (sym v) (tidy_placed i x c inside tidy plain_completed)) h ∙ ap (redirect i o.next) v))
        (subst (λ (e : Entry). Invariant program s (redirect i o.next (placed i (completed_entry 0 e) c))) q
        (finish_keeps_without program s c invariant i inside m.setup.bytes sized now_seen o is goes (ap (λ (e : Entry). e.destination) q ∙ z)))

    module _ (written : (entry_at m i).destination ≢ 0) where
      written_seen : (get_or c.entries i empty_entry).destination ≢ 0
      written_seen z = written (ap (λ (e : Entry). e.destination) (sym q) ∙ z)

      named_here : Named (entry_at m i)
      named_here = record { destination = written; name = λ z. named program s c invariant i inside written_seen (ap (λ (e : Entry). e.name) q ∙ z) }

      pub take_core_keeps : m.free_registers.head ≢ 0 → Invariant program s (view_of (redirected i o.next (learned i m.free_registers.head o.result m)))
      unfolding learned
      take_core_keeps head =
          let v : view_of (learned i m.free_registers.head o.result m) ≡ learn i o.result c = view_taken i o.result m h named_here head in
          subst (Invariant program s)
          (sym (view_redirected i o.next (learned i m.free_registers.head o.result m) (kept_learned m k i m.free_registers.head o.result head)
          (subst Tidy (sym v) (learn_tidy program s c invariant i inside m.setup.bytes sized now_seen o is goes written_seen head)) h ∙ ap (redirect i o.next) v))
          (finish_keeps_free program s c invariant i inside m.setup.bytes sized now_seen o is goes written_seen head)

      -- with the register of a younger entry
      module _ (v : ℕ) (younger : i < v) (there : v < m.count) (holds : held m.physical (entry_at m v) ≢ 0) (empty : m.free_registers.head ≡ 0) where
        qv : get_or c.entries v empty_entry ≡ entry_at m v
        qv = seen_entry m v there

        inside_v : v < length c.entries
        inside_v = let l = seen_length m k in omega arith

        has : ((entry_at m v).state ≡ Completed) × (get_or m.physical (entry_at m v).name 0 ≢ 0)
        has = held_some m.physical (entry_at m v) tidy.physical holds

        has_seen : get_or m.physical (get_or c.entries v empty_entry).name 0 ≢ 0
        has_seen z = has.1 (ap (λ (e : Entry). get_or m.physical e.name 0) (sym qv) ∙ z)

        plain_v : Plain m.physical (entry_at m v)
        plain_v = subst (Plain m.physical) qv (tidy.entries v inside_v)

        name_v : (entry_at m v).name ≢ 0
        name_v z = has.1 (ap (λ (n : ℕ). get_or m.physical n 0) z ∙ tidy.physical)

        named_v : Named (entry_at m v)
        named_v = record { destination = λ z. name_v (plain_v.nameless z); name = name_v }

        -- the victim's register is not in the pool
        outside : get_or m.free_registers.link (held m.physical (entry_at m v)) 0 ≡ 0
        outside =
            held_outside m.setup.registers m.physical m.free_registers.head m.free_registers.link invariant.accounting.free_registers invariant.accounting.register_pool (entry_at m v).name
            (held m.physical (entry_at m v)) (sym plain_v.holds) holds

        view : view_of (learned i (held m.physical (entry_at m v)) o.result (robbed v m)) ≡ learn i o.result (release v c)
        view = view_stolen v i o.result m k h there (λ z. omega arith) named_here named_v holds empty plain_v.holds outside

        released : Invariant program s (release v c)
        released = release_keeps program s c invariant v inside_v (ap (λ (e : Entry). e.state) qv ∙ has.0) has_seen

        like : get_or (release v c).entries i empty_entry ≡ inform_entry (get_or c.entries v empty_entry).name 0 (get_or c.entries i empty_entry)
        like = released_entry c i v inside (λ z. omega arith)

        tidy_after : Tidy (learn i o.result (release v c))
        tidy_after =
            learn_tidy program s (release v c) released i (let l = released_length c v in let n = inside in omega arith) m.setup.bytes sized (ap (λ (e : Entry). e.state) like ∙ now_seen) o
            (ap (outcome_of m.setup.bytes) like ∙ is) goes (λ z. written_seen (ap (λ (e : Entry). e.destination) (sym like) ∙ z)) (released_head c v has_seen)

        pub steal_core_keeps : Invariant program s (view_of (redirected i o.next (learned i (held m.physical (entry_at m v)) o.result (robbed v m))))
        unfolding learned robbed
        steal_core_keeps =
            subst (Invariant program s)
            (sym (view_redirected i o.next (learned i (held m.physical (entry_at m v)) o.result (robbed v m)) (kept_learned (robbed v m) (kept_robbed m k v) i (held m.physical (entry_at m v)) o.result holds)
            (subst Tidy (sym view) tidy_after) h ∙ ap (redirect i o.next) view))
            (finish_keeps_theft program s c invariant i inside m.setup.bytes sized now_seen o is goes written_seen v (λ z. omega arith) inside_v (ap (λ (e : Entry). e.state) qv ∙ has.0) has_seen)
