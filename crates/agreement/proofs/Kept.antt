-- Lengths of the machine's arrays, its count and its valid bits, which every change keeps.
use Prim.Native.Nat.{ℕ, zero, suc, ◌+◌, ◌-◌, ◌≤◌, ◌<◌}
use mathlib.Core.Path.{◌≡◌, refl, subst, ◌∙◌}
use mathlib.Core.Bool.{Bool, true, false, not}
use mathlib.Core.List.{List, ◌∷◌, map}
use native.Mathlib.Omega.{arith}
use borrow.Author.Tests.{ne_eqb}
use lib.Dec.{eqb}
use lib.ListN.{length, set, take, drop, length-set, length-drop, length-append}
use lib.Seq.{length-take-le}
use Rattle.isa.specs.Reads.{choose}
use Rattle.execution.specs.declared.Stop.{Stop}
use Rattle.tables.specs.Table.{look_up, store_under}
use Rattle.tables.specs.Entry.{empty_entry, completed_entry, waiting_entry, sleep_entry, wake_entry}
use Rattle.tables.specs.declared.Mapping.{Mapping}
use Rattle.tables.specs.declared.Entry.{Entry}
use Rattle.tables.proofs.TableLaws.{store_length}
use Rattle.tables.proofs.MapLaws.{look_field, Bit, Valid, mapped_valid, learned_length, learned_valid}
use Rattle.ranges.specs.declared.Setup.{Setup}
use Rattle.renaming.specs.SetUp.{fresh_machine, rising_next, rising_link, own_numbers, own_mapping}
use Rattle.renaming.specs.Changes.{place, entry_at}
use Rattle.decoding.specs.Decode.{enter}
use Rattle.renaming.specs.Drop.{drop_youngest, drop_many, drop_to}
use Rattle.completing.specs.Complete.{learned, refetched, redirected}
use Rattle.stealing.specs.Steal.{robbed}
use Rattle.committing.specs.Commit.{halted_by, move_down, retired}
use Rattle.renaming.specs.declared.Core.{Core}
use Rattle.renaming.proofs.TabulateLaws.{tabulate_length}
use Rattle.renaming.proofs.ChangeLaws.{change_length}

pub record Kept (m : Core) : Type 0 where
  pub entries : length m.entries ≡ 64
  pub mappings : length m.map.mappings ≡ 32
  pub physical : length m.physical ≡ 96
  pub values : length m.values ≡ 96
  pub register_link : length m.free_registers.link ≡ 96
  pub name_link : length m.free_names.link ≡ 96
  pub count : m.count ≤ m.setup.window
  pub window : m.setup.window ≤ 64
  pub valid : Valid m.map

stored_length : {A : Type 0} (t : List A) (d : ℕ) (v : A) (n : ℕ) → length t ≡ n → length (store_under t d v) ≡ n
stored_length t d v n h = store_length t d v ∙ h

module _ (m : Core) (k : Kept m) where
  pub kept_enter : (e : Entry) → m.count < m.setup.window → Kept (enter e m)
  unfolding enter
  kept_enter e h =
      record {
        entries = length-set m.entries m.count e ∙ k.entries;
        mappings = stored_length m.map.mappings e.destination _ 32 k.mappings;
        physical = k.physical;
        values = k.values;
        register_link = k.register_link;
        name_link = stored_length m.free_names.link e.name 0 96 k.name_link;
        count = h;
        window = k.window;
        valid = mapped_valid m.map e.destination (record { name = e.name; register = 0; valid = false }) refl k.valid;
      }

  pub kept_place : (position : ℕ) (e : Entry) → Kept (place position e m)
  kept_place position e =
      record {
        entries = length-set m.entries position e ∙ k.entries;
        mappings = k.mappings;
        physical = k.physical;
        values = k.values;
        register_link = k.register_link;
        name_link = k.name_link;
        count = k.count;
        window = k.window;
        valid = k.valid;
      }

  pub kept_robbed : (victim : ℕ) → Kept (robbed victim m)
  unfolding robbed
  kept_robbed victim =
      let e : Entry = entry_at m victim in
      let lost : Mapping = record { name = e.name; register = 0; valid = false } in
      record {
        entries = change_length (sleep_entry e.name) m.count (set m.entries victim (waiting_entry e)) ∙ length-set m.entries victim (waiting_entry e) ∙ k.entries;
        mappings = learned_length m.map e.destination lost ∙ k.mappings;
        physical = stored_length m.physical e.name 0 96 k.physical;
        values = k.values;
        register_link = k.register_link;
        name_link = k.name_link;
        count = k.count;
        window = k.window;
        valid = learned_valid m.map e.destination lost refl k.valid;
      }

  pub kept_learned : (position register result : ℕ) → (register ≡ 0 → ⊥) → Kept (learned position register result m)
  unfolding learned
  kept_learned position register result h =
      let e : Entry = entry_at m position in
      let gained : Mapping = record { name = e.name; register = register; valid = true } in
      record {
        entries = change_length (wake_entry e.name register) m.count (set m.entries position (completed_entry result e)) ∙ length-set m.entries position (completed_entry result e) ∙ k.entries;
        mappings = learned_length m.map e.destination gained ∙ k.mappings;
        physical = stored_length m.physical e.name register 96 k.physical;
        values = stored_length m.values register result 96 k.values;
        register_link = stored_length m.free_registers.link m.free_registers.head 0 96 k.register_link;
        name_link = k.name_link;
        count = k.count;
        window = k.window;
        valid = learned_valid m.map e.destination gained (rw (ne_eqb register 0 h)) k.valid;
      }

  pub kept_drop : Kept (drop_youngest m)
  unfolding drop_youngest
  kept_drop =
      let e : Entry = entry_at m (m.count - 1) in
      let back : ℕ = look_up (store_under m.physical e.name 0) e.previous in
      record {
        entries = length-set m.entries (m.count - 1) empty_entry ∙ k.entries;
        mappings = stored_length m.map.mappings e.destination _ 32 k.mappings;
        physical = stored_length m.physical e.name 0 96 k.physical;
        values = k.values;
        register_link = stored_length m.free_registers.link _ m.free_registers.head 96 k.register_link;
        name_link = stored_length m.free_names.link e.name m.free_names.head 96 k.name_link;
        count = let c = k.count in omega arith;
        window = k.window;
        valid = mapped_valid m.map e.destination (record { name = e.previous; register = back; valid = not (eqb back 0) }) refl k.valid;
      }

  pub kept_refetched : (position next : ℕ) → Kept (refetched position next m)
  unfolding refetched
  kept_refetched position next =
      record {
        entries = length-set m.entries position _ ∙ k.entries;
        mappings = k.mappings;
        physical = k.physical;
        values = k.values;
        register_link = k.register_link;
        name_link = k.name_link;
        count = k.count;
        window = k.window;
        valid = k.valid;
      }

  pub kept_halted : (why : Stop) → Kept (halted_by why m)
  unfolding halted_by
  kept_halted why =
      record {
        entries = k.entries;
        mappings = k.mappings;
        physical = k.physical;
        values = k.values;
        register_link = k.register_link;
        name_link = k.name_link;
        count = k.count;
        window = k.window;
        valid = k.valid;
      }

-- one place is lost at the front and one won behind the last entry
pub moved_length : (count : ℕ) (entries : List Entry) → 0 < count → count ≤ length entries → length (move_down count entries) ≡ length entries
unfolding move_down
moved_length count entries s h =
    let a = length-append (drop 1 (take count entries)) (empty_entry ∷ drop count entries) in
    let b = length-drop 1 (take count entries) in
    let c = length-take-le count entries h in
    let d = length-drop count entries in
    omega arith

pub kept_retired : (m : Core) → Kept m → 0 < m.count → Kept (retired m)
unfolding retired
kept_retired m k h =
    let e : Entry = entry_at m 0 in
    let c = k.count in
    let w = k.window in
    let l = k.entries in
    record {
      entries = moved_length m.count m.entries h (omega arith) ∙ k.entries;
      mappings = k.mappings;
      physical = stored_length m.physical e.previous 0 96 k.physical;
      values = k.values;
      register_link = stored_length m.free_registers.link _ m.free_registers.head 96 k.register_link;
      name_link = stored_length m.free_names.link e.previous m.free_names.head 96 k.name_link;
      count = omega arith;
      window = k.window;
      valid = k.valid;
    }

pub kept_drops : (n : ℕ) (m : Core) → Kept m → Kept (drop_many n m)
unfolding drop_many
kept_drops zero m k = k
kept_drops (suc n) m k = kept_drops n (drop_youngest m) (kept_drop m k)

pub kept_redirected : (position next : ℕ) (m : Core) → Kept m → Kept (redirected position next m)
unfolding redirected
kept_redirected position next m k = at (eqb next (entry_at m position).predicted)
  where
    at : (b : Bool) → Kept (choose b m (refetched position next (drop_to (suc position) m)))
    at true = k
    at false = kept_refetched (drop_to (suc position) m) (kept_drops (m.count - suc position) m k) position next

fresh_valid : Valid (record { mappings = map own_mapping own_numbers })
fresh_valid r = subst Bit (look_field own_mapping own_numbers r 0) refl

pub kept_fresh : (s : Setup) → s.window ≤ 64 → Kept (fresh_machine s)
unfolding rising_link
kept_fresh s h =
    record {
      entries = refl;
      mappings = refl;
      physical = refl;
      values = refl;
      register_link = tabulate_length 96 0 (rising_next s.registers);
      name_link = tabulate_length 96 0 (rising_next (31 + s.window));
      count = omega arith;
      window = h;
      valid = fresh_valid;
    }
