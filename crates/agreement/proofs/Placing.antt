-- An entry changes, and no table does: kept where it is renamed alike, its operands show the map and it holds what it should.
use Prim.Native.Nat.{ℕ, ◌<◌}
use mathlib.Core.Path.{◌≡◌, ap, sym, ◌∙◌}
use mathlib.Core.List.{List, map}
use lib.ListN.{length, get_or, set, length-set}
use lib.Seq.{map-set_same}
use Rattle.reference.specs.Step.{State}
use Rattle.execution.specs.declared.Stop.{Stop}
use Rattle.tables.specs.Entry.{empty_entry}
use Rattle.tables.specs.declared.Entry.{Entry}
use Rattle.agreement.proofs.View.{View, placed, steer}
use Rattle.agreement.proofs.Ghost.{Ghost}
use Rattle.agreement.proofs.Chains.{Renaming, renaming_of, execution_of, Executes}
use Rattle.agreement.proofs.Contents.{ShownIn, HoldsIn}
use Rattle.agreement.proofs.Pools.{name_of}
use Rattle.agreement.proofs.Invariant.{Accounting, Invariant}
use Rattle.std.proofs.lemmas.List.Elements.{All-set}
use Rattle.agreement.proofs.Walks.{state_at, executed_set, state_set}

pub placed_accounted : (g : Ghost) (m : List ℕ) (c : View) (i : ℕ) (x : Entry) → Accounting g m c → i < length c.entries → renaming_of x ≡ renaming_of (get_or c.entries i empty_entry)
    → ShownIn c.physical x → HoldsIn c.physical x → Accounting g m (placed i x c)
placed_accounted g m c i x accounting inside l sx hx =
    let renamings : map renaming_of (set c.entries i x) ≡ map renaming_of c.entries = map-set_same renaming_of c.entries i x empty_entry l in
    let names : map name_of (set c.entries i x) ≡ map name_of c.entries = map-set_same name_of c.entries i x empty_entry (ap (λ (y : Renaming). y.name) l) in
    record {
      free_registers = accounting.free_registers;
      free_names = accounting.free_names;
      writers = accounting.writers;
      renamed = rw renamings accounting.renamed;
      contents = record {
        shown = All-set (ShownIn c.physical) c.entries i x sx accounting.contents.shown;
        holds = All-set (HoldsIn c.physical) c.entries i x hx accounting.contents.holds;
        valued = accounting.contents.valued;
      };
      register_pool = accounting.register_pool;
      name_pool = rw names accounting.name_pool;
      live = rw names accounting.live;
      shows = rw renamings accounting.shows;
      general = accounting.general;
      physical_room = accounting.physical_room;
      values_room = accounting.values_room;
      value_room = accounting.value_room;
      writer_room = accounting.writer_room;
      enough = accounting.enough;
      some = accounting.some;
      within = rw (length-set c.entries i x) accounting.within;
    }

-- with the same prediction, the in-order run goes on as before
pub placed_keeps : (p : List ℕ) (s : State) (c : View) (i : ℕ) (x : Entry) (invariant : Invariant p s c) → i < length c.entries
    → renaming_of x ≡ renaming_of (get_or c.entries i empty_entry) → x.predicted ≡ (get_or c.entries i empty_entry).predicted → ShownIn c.physical x → HoldsIn c.physical x
    → Executes p invariant.ghost (state_at p s c.entries i) (execution_of x) → Invariant p s (placed i x c)
placed_keeps p s c i x invariant inside l n sx hx o =
    record {
      ghost = invariant.ghost;
      committed = invariant.committed;
      accounting = placed_accounted invariant.ghost invariant.committed c i x invariant.accounting inside l sx hx;
      agree = invariant.agree;
      executed = executed_set p invariant.ghost s c.entries i x inside n o invariant.executed;
      next = invariant.next;
      fetching = invariant.fetching ∙ ap (λ (t : State). t.address) (sym (state_set p s c.entries i x n));
    }

-- fetch, next address and halt are nobody's business in the tables
pub steer_accounted : (g : Ghost) (m : List ℕ) (c : View) (fetch next : ℕ) (halt : Stop) → Accounting g m c → Accounting g m (steer fetch next halt c)
steer_accounted g m c fetch next halt a =
    record {
      free_registers = a.free_registers;
      free_names = a.free_names;
      writers = a.writers;
      renamed = a.renamed;
      contents = a.contents;
      register_pool = a.register_pool;
      name_pool = a.name_pool;
      live = a.live;
      shows = a.shows;
      general = a.general;
      physical_room = a.physical_room;
      values_room = a.values_room;
      value_room = a.value_room;
      writer_room = a.writer_room;
      enough = a.enough;
      some = a.some;
      within = a.within;
    }
