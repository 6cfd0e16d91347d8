-- A name gets a register, or loses it: what every table says afterwards.
use Prim.Native.Nat.{ℕ, ◌<◌}
use mathlib.Core.Path.{◌≡◌, refl, ap, ◌∙◌}
use mathlib.Core.Logic.{◌≢◌}
use mathlib.Core.List.{List, ◌∷◌, map}
use native.Mathlib.Omega.{arith}
use lib.ListN.{length, get_or, set, length-set, length-map}
use lib.Seq.{get_or-set_same, map-set_same}
use Rattle.tables.specs.FreeList.{occurrences}
use Rattle.tables.specs.Entry.{empty_entry, waiting_entry, completed_entry}
use Rattle.tables.specs.declared.State.{State as Stage}
use Rattle.tables.specs.declared.State.TheVariants.{Issued, Completed}
use Rattle.tables.specs.declared.Entry.{Entry}
use Rattle.agreement.proofs.View.{View, inform_entry, reshown, release, learn}
use Rattle.agreement.proofs.Ghost.{Ghost, Writers}
use Rattle.agreement.proofs.Chains.{Renaming, renaming_of}
use Rattle.agreement.proofs.Contents.{ShownIn, Holds, holding, without, stopped, early, HoldsIn, GeneralMap}
use Rattle.agreement.proofs.Pools.{name_of, RegisterPool, Live}
use Rattle.agreement.proofs.Invariant.{Accounting}
use Rattle.agreement.proofs.Tests.{impossible}
use Rattle.agreement.proofs.RegisterPools.{put_free, head_some, head_range, head_new, register_take, register_free}
use Rattle.agreement.proofs.NamePools.{name_most}
use Rattle.agreement.proofs.LiveLaws.{live_set}
use Rattle.std.specs.List.{All}
use Rattle.std.proofs.lemmas.List.Elements.{All-set, All-map}
use Rattle.agreement.proofs.Every.{all_set, map_keep}
use Rattle.agreement.proofs.Walks.{renamed_at, writers_last}
use Rattle.agreement.proofs.ContentLaws.{inform_renaming, inform_shown, valued_set, valued_clear, holds_other, general_set}
use Rattle.agreement.proofs.NameFacts.{count_name, entry_range, unique_name, not_committed}

-- an entry that is not completed has no register
pub no_register : (physical : List ℕ) (t : Stage) (cause n : ℕ) → Holds physical t cause n → t ≢ Completed → get_or physical n 0 ≡ 0
no_register physical t cause n (holding a b x y) z = absurd (z a)
no_register physical t cause n (without a b x) z = absurd (z a)
no_register physical t cause n (stopped a b x) z = x
no_register physical t cause n (early a x) z = x

module _ (g : Ghost) (m : List ℕ) (c : View) (accounting : Accounting g m c) (i : ℕ) (inside : i < length c.entries) where
  abbrev e : Entry
  e = get_or c.entries i empty_entry

  written : get_or g.writer e.name 0 ≡ e.destination
  written = (renamed_at g m c.entries i inside accounting.renamed).writer

  small : e.destination < 32
  small = (renamed_at g m c.entries i inside accounting.renamed).small

  in_range : e.name < length c.physical
  in_range = omega (arith, entry_range c.setup.window m c.entries c.free_names.head c.free_names.link accounting.free_names accounting.name_pool i, accounting.physical_room, accounting.name_pool.bound)

  shown_here : ShownIn c.physical e
  shown_here = accounting.contents.shown i empty_entry inside

  holds_here : HoldsIn c.physical e
  holds_here = accounting.contents.holds i empty_entry inside

  module _ (some : e.name ≢ 0) where
    once : (occurrences e.name (map name_of c.entries) ≡ 1) × (occurrences e.name accounting.free_names ≡ 0)
    once = omega (
      arith,
      name_most c.setup.window m (map name_of c.entries) c.free_names.head c.free_names.link accounting.free_names accounting.name_pool e.name (omega arith),
      count_name c.entries i e.name refl some,
    )

    uncommitted : (r : ℕ) → get_or m r 0 ≢ e.name
    uncommitted = not_committed c.setup.window m c.entries c.free_names.head c.free_names.link accounting.free_names accounting.name_pool i e.name refl some

    unique : (j : ℕ) → j < length c.entries → j ≢ i → (get_or c.entries j empty_entry).name ≢ e.name
    unique j h d q = d (unique_name c.setup.window m c.entries c.free_names.head c.free_names.link accounting.free_names accounting.name_pool i j inside h some q)

    writers : Writers g c.names
    writers = rw accounting.shows (writers_last g m c.entries accounting.writers accounting.renamed)

    -- what learning and releasing share: the name gets the register q, the entry becomes x
    module _ (q : ℕ) (x : Entry) (like : renaming_of x ≡ renaming_of e) (seen : ShownIn c.physical x) where
      abbrev physical' : List ℕ
      physical' = set c.physical e.name q

      abbrev entries' : List Entry
      entries' = map (inform_entry e.name q) (set c.entries i x)

      shown_after : All (ShownIn physical') entries'
      shown_after = All-map (ShownIn physical') (inform_entry e.name q) (set c.entries i x)
          (λ j d h. inform_shown c.physical e.name q in_range (get_or (set c.entries i x) j d) (All-set (ShownIn c.physical) c.entries i x seen accounting.contents.shown j d h))

      holds_after : HoldsIn physical' x → All (HoldsIn physical') entries'
      holds_after h = All-map (HoldsIn physical') (inform_entry e.name q) (set c.entries i x)
          (all_set (HoldsIn c.physical) (HoldsIn physical') c.entries empty_entry i x h
          (λ j a b y. holds_other c.physical e.name q (get_or c.entries j empty_entry).state (get_or c.entries j empty_entry).stop.cause (get_or c.entries j empty_entry).name (unique j a b) y)
          accounting.contents.holds)

      live_after : Live physical' m (map name_of c.entries) accounting.free_names
      live_after = live_set c.physical m (map name_of c.entries) accounting.free_names e.name q accounting.live in_range once.0 once.1 uncommitted

      general_after : GeneralMap physical' c.names (reshown c.names c.registers e.destination e.name q)
      general_after = general_set g c.physical c.names c.registers e.name e.destination q writers written small some in_range accounting.general

      renamings_after : map renaming_of entries' ≡ map renaming_of c.entries
      renamings_after = map_keep renaming_of (inform_entry e.name q) (set c.entries i x) (inform_renaming e.name q) ∙ map-set_same renaming_of c.entries i x empty_entry like

      names_after : map name_of entries' ≡ map name_of c.entries
      names_after = map_keep name_of (inform_entry e.name q) (set c.entries i x) (λ f. refl) ∙ map-set_same name_of c.entries i x empty_entry (ap (λ (y : Renaming). y.name) like)

      length_after : length entries' ≡ length c.entries
      length_after = length-map (set c.entries i x) (inform_entry e.name q) ∙ length-set c.entries i x

    -- its register goes back
    pub release_accounted : Accounting g m (release i c)
    unfolding release
    release_accounted =
        let x : Entry = waiting_entry e in
        record {
          free_registers = put_free (get_or c.physical e.name 0) accounting.free_registers;
          free_names = accounting.free_names;
          writers = accounting.writers;
          renamed = rw (renamings_after 0 x refl shown_here) accounting.renamed;
          contents = record {
            shown = shown_after 0 x refl shown_here;
            holds = holds_after 0 x refl shown_here (early (λ y. impossible (cc)) (get_or-set_same c.physical e.name 0 0 in_range));
            valued = valued_clear g c.physical c.values e.name accounting.contents.valued;
          };
          register_pool = register_free c.setup.registers c.physical c.free_registers.head c.free_registers.link accounting.free_registers e.name (get_or c.physical e.name 0) accounting.register_pool in_range refl;
          name_pool = rw (names_after 0 x refl shown_here) accounting.name_pool;
          live = rw (names_after 0 x refl shown_here) (live_after 0 x refl shown_here);
          shows = rw (renamings_after 0 x refl shown_here) accounting.shows;
          general = general_after 0 x refl shown_here;
          physical_room = length-set c.physical e.name 0 ∙ accounting.physical_room;
          values_room = accounting.values_room;
          value_room = accounting.value_room;
          writer_room = accounting.writer_room;
          enough = accounting.enough;
          some = accounting.some;
          within = rw (length_after 0 x refl shown_here) accounting.within;
        }

    -- it gets the head of the pool, and the value that its name stands for
    pub learn_accounted : (v n : ℕ) (ns : List ℕ) → RegisterPool c.setup.registers c.physical c.free_registers.head c.free_registers.link (n ∷ ns) → e.state ≡ Issued → e.stop.cause ≡ 0
        → v ≡ get_or g.value e.name 0 → Accounting g m (learn i v c)
    unfolding learn
    learn_accounted v n ns pool now clean is =
        let q : ℕ = c.free_registers.head in
        let x : Entry = completed_entry v e in
        let z : q ≢ 0 = head_some c.setup.registers c.physical c.free_registers.head c.free_registers.link n ns pool in
        let none : get_or c.physical e.name 0 ≡ 0 = no_register c.physical e.state e.stop.cause e.name holds_here (λ y. impossible (cc)) in
        record {
          free_registers = ns;
          free_names = accounting.free_names;
          writers = accounting.writers;
          renamed = rw (renamings_after q x refl shown_here) accounting.renamed;
          contents = record {
            shown = shown_after q x refl shown_here;
            holds = holds_after q x refl shown_here (holding refl clean some (rw (get_or-set_same c.physical e.name q 0 in_range) z));
            valued = valued_set g c.physical c.values e.name q v some in_range
                (omega (arith, head_range c.setup.registers c.physical c.free_registers.head c.free_registers.link n ns pool, accounting.values_room, accounting.register_pool.bound)) is
                (head_new c.setup.registers c.physical c.free_registers.head c.free_registers.link n ns pool) accounting.contents.valued;
          };
          register_pool = register_take c.setup.registers c.physical c.free_registers.head c.free_registers.link n ns pool e.name in_range none;
          name_pool = rw (names_after q x refl shown_here) accounting.name_pool;
          live = rw (names_after q x refl shown_here) (live_after q x refl shown_here);
          shows = rw (renamings_after q x refl shown_here) accounting.shows;
          general = general_after q x refl shown_here;
          physical_room = length-set c.physical e.name q ∙ accounting.physical_room;
          values_room = length-set c.values q v ∙ accounting.values_room;
          value_room = accounting.value_room;
          writer_room = accounting.writer_room;
          enough = accounting.enough;
          some = accounting.some;
          within = rw (length_after q x refl shown_here) accounting.within;
        }
