-- The youngest entry is dropped; so are all behind a position.
use Prim.Native.Nat.{ℕ, zero, suc, ◌+◌, ◌<◌}
use mathlib.Core.Path.{◌≡◌, refl, ap, sym, ◌∙◌}
use mathlib.Core.Logic.{◌≢◌}
use mathlib.Core.List.{List, [], ◌∷◌, ◌++◌, map, map-append}
use native.Mathlib.Omega.{arith}
use lib.ListN.{length, get_or, set, take, length-set}
use lib.Seq.{get_or-set_other, get_or-set_same, set-get_or, set-set, take-suc, take_all, length-take-le, take-take}
use Rattle.tables.specs.FreeList.{occurrences}
use Rattle.tables.specs.Entry.{empty_entry}
use Rattle.tables.specs.declared.Entry.{Entry}
use Rattle.agreement.proofs.View.{View, drop_at, drops_to}
use Rattle.agreement.proofs.Ghost.{Ghost}
use Rattle.agreement.proofs.Chains.{renaming_of, Renamed, last_names}
use Rattle.agreement.proofs.Contents.{ShownIn, HoldsIn, GeneralMap}
use Rattle.agreement.proofs.Pools.{name_of, NamePool}
use Rattle.agreement.proofs.Invariant.{Accounting}
use Rattle.agreement.proofs.Tests.{equal, apart, eq?}
use Rattle.agreement.proofs.Counting.{same_refl, count_last}
use Rattle.agreement.proofs.RegisterPools.{put_free, register_free}
use Rattle.agreement.proofs.NamePools.{name_drop, name_most}
use Rattle.agreement.proofs.LiveLaws.{live_drop}
use Rattle.std.specs.List.{All}
use Rattle.std.proofs.lemmas.List.Elements.{All-take}
use Rattle.agreement.proofs.Walks.{renamed_at, renamed_take, last_names_lem, lacks_last, lacks_all}
use Rattle.agreement.proofs.ContentLaws.{clear_other, shown_clear, holds_clear, valued_clear}
use Rattle.agreement.proofs.NameFacts.{no_name, entry_range, not_committed}

module _ (g : Ghost) (m : List ℕ) (c : View) (accounting : Accounting g m c) (n : ℕ) (is : length c.entries ≡ suc n) where
  abbrev e : Entry
  e = get_or c.entries n empty_entry

  abbrev kept : List Entry
  kept = take n c.entries

  abbrev physical' : List ℕ
  physical' = set c.physical e.name 0

  split : c.entries ≡ kept ++ e ∷ []
  split = sym (take_all (suc n) c.entries (omega arith)) ∙ take-suc c.entries n empty_entry (omega arith)

  names_split : map name_of c.entries ≡ map name_of kept ++ e.name ∷ []
  names_split = ap (map name_of) split ∙ map-append name_of kept (e ∷ [])

  here : Renamed g (last_names m (map renaming_of kept)) (renaming_of e)
  here = renamed_at g m c.entries n (omega arith) accounting.renamed

  pool : NamePool c.setup.window m (map name_of kept ++ e.name ∷ []) c.free_names.head c.free_names.link accounting.free_names
  pool = rw names_split at accounting.name_pool

  alone : e.name ≢ 0 → (occurrences e.name (map name_of kept) ≡ 0) × (occurrences e.name accounting.free_names ≡ 0)
  alone z = omega (
    arith,
    name_most c.setup.window m (map name_of kept ++ e.name ∷ []) c.free_names.head c.free_names.link accounting.free_names pool e.name (omega arith),
    count_last e.name e.name (map name_of kept),
    same_refl e.name,
  )

  uncommitted : e.name ≢ 0 → (r : ℕ) → get_or m r 0 ≢ e.name
  uncommitted z = not_committed c.setup.window m c.entries c.free_names.head c.free_names.link accounting.free_names accounting.name_pool n e.name refl z

  others : e.name ≢ 0 → All (λ x. x.name ≢ e.name) kept
  others z = no_name kept e.name z (alone z).0

  in_range : e.name < length c.physical
  in_range = omega (arith, entry_range c.setup.window m c.entries c.free_names.head c.free_names.link accounting.free_names accounting.name_pool n, accounting.physical_room, accounting.name_pool.bound)

  zero_register_lem : get_or c.physical 0 0 ≡ 0
  zero_register_lem = accounting.contents.valued.zero_register

  abbrev L : List ℕ
  L = last_names m (map renaming_of kept)

  names_now : c.names ≡ set L e.destination e.name
  names_now = accounting.shows ∙ ap (λ (l : List Entry). last_names m (map renaming_of l)) split ∙ last_names_lem m kept e

  names_before : set c.names e.destination e.previous ≡ last_names m (map renaming_of kept)
  names_before =
      ap (λ (l : List ℕ). set l e.destination e.previous) names_now ∙ set-set L e.destination e.name e.previous ∙ cc (set-get_or L e.destination 0, here.previous)

  general_before : GeneralMap physical' L (set c.registers e.destination (get_or physical' e.previous 0))
  general_before = record {
    gives = λ r. elim (eq? r e.destination) [
      | equal x t ↦ cc (get_or-set_same c.registers e.destination (get_or physical' e.previous 0) 0 (omega (arith, here.small, accounting.general.size)), here.previous)
      | apart x t ↦ cc (
        get_or-set_other c.registers e.destination r (get_or physical' e.previous 0) 0 x,
        accounting.general.gives r,
        names_now,
        get_or-set_other L e.destination r e.name 0 x,
        clear_other c.physical e.name (get_or L r 0) zero_register_lem (λ z. lacks_last e.name m kept (uncommitted z) (others z) r),
      )
    ];
    size = length-set c.registers e.destination (get_or physical' e.previous 0) ∙ accounting.general.size;
  }

  pub dropped_accounted : Accounting g m (drop_at n c)
  unfolding drop_at
  dropped_accounted = record {
    free_registers = put_free (get_or c.physical e.name 0) accounting.free_registers;
    free_names = put_free e.name accounting.free_names;
    writers = accounting.writers;
    renamed = renamed_take g m c.entries n accounting.renamed;
    contents = record {
      shown = λ i d h. shown_clear c.physical e.name (get_or kept i d) zero_register_lem
          (λ z. lacks_all g e.name m kept (uncommitted z) (others z) (renamed_take g m c.entries n accounting.renamed) i d h)
          (All-take (ShownIn c.physical) n c.entries accounting.contents.shown i d h);
      holds = λ i d h. let x : Entry = get_or kept i d in
          holds_clear c.physical e.name x.state x.stop.cause x.name (clear_other c.physical e.name x.name zero_register_lem (λ z. others z i d h))
          (All-take (HoldsIn c.physical) n c.entries accounting.contents.holds i d h);
      valued = valued_clear g c.physical c.values e.name accounting.contents.valued;
    };
    register_pool = register_free c.setup.registers c.physical c.free_registers.head c.free_registers.link accounting.free_registers e.name (get_or c.physical e.name 0) accounting.register_pool in_range refl;
    name_pool = name_drop c.setup.window m (map name_of kept) c.free_names.head c.free_names.link accounting.free_names e.name pool;
    live = live_drop c.physical m (map name_of kept) accounting.free_names e.name (rw names_split at accounting.live) zero_register_lem in_range alone (λ r z. uncommitted z r);
    shows = names_before;
    general = rw names_before general_before;
    physical_room = length-set c.physical e.name 0 ∙ accounting.physical_room;
    values_room = accounting.values_room;
    value_room = accounting.value_room;
    writer_room = accounting.writer_room;
    enough = accounting.enough;
    some = accounting.some;
    within = omega (arith, length-take-le n c.entries (omega arith), accounting.within);
  }

-- and so on, until n are left
pub drops_accounted : (g : Ghost) (m : List ℕ) (n j : ℕ) (c : View) → Accounting g m c → length c.entries ≡ n + j → Accounting g m (drops_to n j c)
unfolding drops_to drop_at
drops_accounted g m n zero c accounting h = accounting
drops_accounted g m n (suc j) c accounting h =
    drops_accounted g m n j (drop_at (n + j) c) (dropped_accounted g m c accounting (n + j) (omega arith)) (length-take-le (n + j) c.entries (omega arith))

pub drops_entries : (n j : ℕ) (c : View) → length c.entries ≡ n + j → (drops_to n j c).entries ≡ take n c.entries
unfolding drops_to drop_at
drops_entries n zero c h = sym (take_all n c.entries (omega arith))
drops_entries n (suc j) c h = drops_entries n j (drop_at (n + j) c) (length-take-le (n + j) c.entries (omega arith)) ∙ take-take n (n + j) c.entries (omega arith)
