-- An entry enters: what the tables say afterwards.
use Prim.Native.Nat.{ℕ, suc, ◌≤◌, ◌<◌}
use mathlib.Core.Path.{◌≡◌, ap, sym, ◌∙◌}
use mathlib.Core.Logic.{◌≢◌}
use mathlib.Core.List.{List, [], ◌∷◌, ◌++◌, map, map-append}
use native.Mathlib.Omega.{arith}
use lib.ListN.{length, get_or, set, length-set, length-append}
use lib.Seq.{get_or-set_other, get_or-set_same}
use Rattle.reference.specs.Fetch.{fetch_at}
use Rattle.reference.specs.Step.{first_source, second_source, destination}
use Rattle.tables.specs.FreeList.{occurrences}
use Rattle.tables.specs.declared.State.TheVariants.{Waits, Completed}
use Rattle.tables.specs.declared.Entry.{Entry}
use Rattle.decoding.specs.Decode.{entering_stop}
use Rattle.agreement.proofs.View.{View, operand_for, name_in, append}
use Rattle.agreement.proofs.Ghost.{Ghost}
use Rattle.agreement.proofs.Chains.{renaming_of, Renamed, last_names}
use Rattle.agreement.proofs.Contents.{Shown, ShownIn, stopped, early, HoldsIn, GeneralMap}
use Rattle.agreement.proofs.Pools.{name_of, NamePool, Live}
use Rattle.agreement.proofs.Invariant.{Accounting}
use Rattle.agreement.proofs.Tests.{equal, apart, eq?, impossible}
use Rattle.agreement.proofs.Counting.{count_not}
use Rattle.agreement.proofs.NamePools.{name_take, name_none, fresh_is, fresh_some, fresh_range, fresh_once}
use Rattle.agreement.proofs.LiveLaws.{set_zero, live_take, live_none}
use Rattle.std.specs.List.{All}
use Rattle.std.proofs.lemmas.List.Elements.{All-push}
use Rattle.agreement.proofs.Steps.{Named, fetched_named}
use Rattle.agreement.proofs.Walks.{renamed_append, last_names_lem, writers_last, zero_last}
use Rattle.agreement.proofs.ContentLaws.{operand_name}
use Rattle.agreement.proofs.NameFacts.{no_name}
use Rattle.agreement.proofs.GhostLaws.{renamed_ghost, writers_ghost, valued_ghost}

-- what decode enters, as the list view shows it
pub record Enters (program : List ℕ) (c : View) (x : Entry) : Type 0 where
  pub instruction : x.instruction ≡ (fetch_at program c.fetch).fields
  pub address : x.address ≡ c.fetch
  pub left : x.left ≡ operand_for (get_or c.names (first_source x.instruction) 0) (get_or c.registers (first_source x.instruction) 0)
  pub right : x.right ≡ operand_for (get_or c.names (second_source x.instruction) 0) (get_or c.registers (second_source x.instruction) 0)
  pub written : x.destination ≡ destination x.instruction
  pub unnamed : x.destination ≡ 0 → x.name ≡ 0
  pub named : x.destination ≢ 0 → x.name ≡ c.free_names.head
  pub previous : x.previous ≡ get_or c.names x.destination 0
  pub waits : (entering_stop (fetch_at program c.fetch)).cause ≡ 0 → (x.state ≡ Waits) × (x.stop.cause ≡ 0)
  pub stops : (entering_stop (fetch_at program c.fetch)).cause ≢ 0 → (x.state ≡ Completed) × (x.stop ≡ entering_stop (fetch_at program c.fetch))

-- the general map shows no name for register 0
pub zero_named : (g : Ghost) (m : List ℕ) (c : View) → Accounting g m c → get_or c.names 0 0 ≡ 0
zero_named g m c accounting = ap (λ (l : List ℕ). get_or l 0 0) accounting.shows ∙ zero_last g m c.entries accounting.name_pool.zero_name accounting.renamed

shown_operands : (physical names registers : List ℕ) (r t : ℕ) → GeneralMap physical names registers
    → Shown physical (operand_for (get_or names r 0) (get_or registers r 0)) (operand_for (get_or names t 0) (get_or registers t 0))
shown_operands physical names registers r t k =
    record {
      left = rw (operand_name (get_or names r 0) (get_or registers r 0)) (ap (operand_for (get_or names r 0)) (k.gives r));
      right = rw (operand_name (get_or names t 0) (get_or registers t 0)) (ap (operand_for (get_or names t 0)) (k.gives t));
    }

module _ (g : Ghost) (m : List ℕ) (c : View) (accounting : Accounting g m c) (p : List ℕ) (x : Entry) (enters : Enters p c x) (space : length c.entries < c.setup.window) where
  fields : Named x.instruction
  fields = rw enters.instruction (fetched_named p c.fetch)

  shown_new : ShownIn c.physical x
  shown_new = rw (enters.left, enters.right) (shown_operands c.physical c.names c.registers (first_source x.instruction) (second_source x.instruction) accounting.general)

  holds_new : get_or c.physical x.name 0 ≡ 0 → HoldsIn c.physical x
  holds_new z = elim (eq? (entering_stop (fetch_at p c.fetch)).cause 0) [
    | equal q t ↦ let w = (enters.waits q).0 in early (λ y. impossible (cc)) z
    | apart q t ↦ stopped (enters.stops q).0 (rw (enters.stops q).1 q) z
  ]

  renamed_new : (h : Ghost) → get_or h.writer x.name 0 ≡ x.destination → Renamed h (last_names m (map renaming_of c.entries)) (renaming_of x)
  renamed_new h l = rw (← accounting.shows) (record {
    written = enters.written;
    small = rw enters.written fields.destination;
    first = fields.first;
    second = fields.second;
    left = ap name_in enters.left ∙ operand_name _ _;
    right = ap name_in enters.right ∙ operand_name _ _;
    previous = enters.previous;
    writer = l;
    unnamed = enters.unnamed;
  })

  names_new : map name_of (c.entries ++ x ∷ []) ≡ map name_of c.entries ++ x.name ∷ []
  names_new = map-append name_of c.entries (x ∷ [])

  fits : length (c.entries ++ x ∷ []) ≤ c.setup.window
  fits = omega (arith, length-append c.entries (x ∷ []), space)

  -- without a destination
  pub append_accounted_without : x.destination ≡ 0 → Accounting g m (append 0 x c)
  unfolding append
  append_accounted_without dz =
      let nz : x.name ≡ 0 = enters.unnamed dz in
      record {
        free_registers = accounting.free_registers;
        free_names = accounting.free_names;
        writers = accounting.writers;
        renamed = renamed_append g m c.entries x accounting.renamed (renamed_new g (cc (accounting.writers.writers 0 (omega arith), accounting.name_pool.zero_name)));
        contents = record {
          shown = All-push (ShownIn c.physical) c.entries x accounting.contents.shown shown_new;
          holds = All-push (HoldsIn c.physical) c.entries x accounting.contents.holds (holds_new (ap (λ (n : ℕ). get_or c.physical n 0) nz ∙ accounting.contents.valued.zero_register));
          valued = accounting.contents.valued;
        };
        register_pool = accounting.register_pool;
        name_pool = rw (names_new, nz) (name_none c.setup.window m (map name_of c.entries) c.free_names.head c.free_names.link accounting.free_names accounting.name_pool);
        live = rw (names_new, nz) (live_none c.physical m (map name_of c.entries) accounting.free_names accounting.contents.valued.zero_register accounting.live);
        shows = accounting.shows ∙ sym (last_names_lem m c.entries x ∙ cc (set_zero (last_names m (map renaming_of c.entries)) 0 (zero_last g m c.entries accounting.name_pool.zero_name accounting.renamed)));
        general = accounting.general;
        physical_room = accounting.physical_room;
        values_room = accounting.values_room;
        value_room = accounting.value_room;
        writer_room = accounting.writer_room;
        enough = accounting.enough;
        some = accounting.some;
        within = fits;
      }

  -- with one: the name n is new, and stands for v
  module _ (d n v : ℕ) (ns : List ℕ) (pool : NamePool c.setup.window m (map name_of c.entries) c.free_names.head c.free_names.link (n ∷ ns))
      (live : Live c.physical m (map name_of c.entries) (n ∷ ns)) (dest : x.destination ≡ suc d) where
    is : x.name ≡ n
    is = enters.named (λ z. omega (arith, dest)) ∙ fresh_is c.setup.window m (map name_of c.entries) c.free_names.head c.free_names.link n ns pool

    abbrev pub renewed : Ghost
    renewed = record { value = set g.value n v; writer = set g.writer n (suc d) }

    once : (occurrences n ns ≡ 0) × (occurrences n m ≡ 0) × (occurrences n (map name_of c.entries) ≡ 0)
    once = fresh_once c.setup.window m (map name_of c.entries) c.free_names.head c.free_names.link n ns pool

    some : n ≢ 0
    some = fresh_some c.setup.window m (map name_of c.entries) c.free_names.head c.free_names.link n ns pool

    range : n < 96
    range = omega (arith, fresh_range c.setup.window m (map name_of c.entries) c.free_names.head c.free_names.link n ns pool, pool.bound)

    pub new_values : (j : ℕ) → j ≢ n → get_or renewed.value j 0 ≡ get_or g.value j 0
    new_values j z = get_or-set_other g.value n j v 0 z

    pub new_writers : (j : ℕ) → j ≢ n → get_or renewed.writer j 0 ≡ get_or g.writer j 0
    new_writers j z = get_or-set_other g.writer n j (suc d) 0 z

    pub new_here : get_or renewed.value x.name 0 ≡ v
    new_here = rw is (get_or-set_same g.value n v 0 (omega (arith, range, accounting.value_room)))

    pub uncommitted : (r : ℕ) → get_or m r 0 ≢ n
    uncommitted r = count_not m r n some once.1

    pub others : All (λ e. e.name ≢ n) c.entries
    others = no_name c.entries n some once.2

    unused : get_or c.physical n 0 ≡ 0
    unused = live.unused 0 0 (omega arith)

    general_after : GeneralMap c.physical (set c.names (suc d) c.free_names.head) (set c.registers (suc d) 0)
    general_after =
        let l : length c.names ≡ 32 = rw accounting.shows (writers_last g m c.entries accounting.writers accounting.renamed).size in
        let b : suc d < 32 = omega (arith, dest, enters.written, fields.destination) in
        record {
          gives = λ r. elim (eq? r (suc d)) [
            | equal q t ↦ cc (
              get_or-set_same c.registers (suc d) 0 0 (omega (arith, accounting.general.size)),
              get_or-set_same c.names (suc d) c.free_names.head 0 (omega arith),
              unused,
              fresh_is c.setup.window m (map name_of c.entries) c.free_names.head c.free_names.link n ns pool,
            )
            | apart q t ↦ cc (get_or-set_other c.registers (suc d) r 0 0 q, get_or-set_other c.names (suc d) r c.free_names.head 0 q, accounting.general.gives r)
          ];
          size = length-set c.registers (suc d) 0 ∙ accounting.general.size;
        }

    pub append_accounted_with : Accounting renewed m (append (suc d) x c)
    unfolding append
    append_accounted_with = record {
      free_registers = accounting.free_registers;
      free_names = ns;
      writers = writers_ghost g renewed n new_values new_writers m uncommitted accounting.writers;
      renamed = renamed_append renewed m c.entries x (renamed_ghost g renewed n new_values new_writers m c.entries others accounting.renamed)
          (renamed_new renewed (rw (is, dest) (get_or-set_same g.writer n (suc d) 0 (omega (arith, range, accounting.writer_room)))));
      contents = record {
        shown = All-push (ShownIn c.physical) c.entries x accounting.contents.shown shown_new;
        holds = All-push (HoldsIn c.physical) c.entries x accounting.contents.holds (holds_new (rw is unused));
        valued = valued_ghost g renewed n new_values new_writers c.physical c.values unused some accounting.contents.valued;
      };
      register_pool = accounting.register_pool;
      name_pool = rw (names_new, is) (name_take c.setup.window m (map name_of c.entries) c.free_names.head c.free_names.link n ns pool);
      live = rw (names_new, is) (live_take c.physical m (map name_of c.entries) ns n live);
      shows = sym (last_names_lem m c.entries x ∙ cc (accounting.shows, dest, enters.named (λ z. omega (arith, dest))));
      general = general_after;
      physical_room = accounting.physical_room;
      values_room = accounting.values_room;
      value_room = length-set g.value n v ∙ accounting.value_room;
      writer_room = length-set g.writer n (suc d) ∙ accounting.writer_room;
      enough = accounting.enough;
      some = accounting.some;
      within = fits;
    }
