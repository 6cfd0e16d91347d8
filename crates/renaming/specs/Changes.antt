-- What the calls do to a machine's tables and entries, one verb each.
use Rattle.std.specs.Prelude.{ℕ, zero, suc, Bool, not, List, [], ◌∷◌, eqb, get_or, set}
use Rattle.tables.specs.Table.{look_up, store_under}
use Rattle.tables.specs.FreeList.{taken, freed}
use Rattle.tables.specs.GeneralMap.{mapped, shown_by, learned}
use Rattle.tables.specs.Entry.{empty_entry}
use Rattle.tables.specs.declared.Entry.{Entry}
use Rattle.renaming.specs.declared.Core.{Core}
use Rattle.renaming.specs.Setters.{with_entries, with_map, with_physical, with_free_registers, with_free_names}

abbrev pub entry_at : Core → ℕ → Entry
entry_at m position = get_or m.entries position empty_entry

abbrev pub place : ℕ → Entry → Core → Core
place position e m = with_entries (set m.entries position e) m

-- the first n elements of a list change alike
unfoldable pub change_first : {A : Type 0} → ℕ → (A → A) → List A → List A
change_first zero f elements = elements
change_first (suc n) f [] = []
change_first (suc n) f (e ∷ elements) = f e ∷ change_first n f elements

-- all entries change alike
abbrev pub change_all : (Entry → Entry) → Core → Core
change_all f m = with_entries (change_first m.count f m.entries) m

-- the head of the pool of registers is taken; an empty pool stays
abbrev pub take_register : Core → Core
take_register m = with_free_registers (taken m.free_registers) m

-- a register is freed
abbrev pub free_register : ℕ → Core → Core
free_register register m = with_free_registers (freed register m.free_registers) m

-- a name is freed; "The physical map holds for each name its register, zero once the name is freed."
abbrev pub free_name : ℕ → Core → Core
free_name name m = with_physical (store_under m.physical name 0) (with_free_names (freed name m.free_names) m)

-- the general map holds a name, a register and a valid bit for a logical register
abbrev pub map_to : ℕ → ℕ → ℕ → Bool → Core → Core
map_to logical name register valid m = with_map (mapped logical (record { name = name; register = register; valid = valid }) m.map) m

-- a name returns to the general map, "with register and valid bit from the physical map"
abbrev pub restore : ℕ → ℕ → Core → Core
restore logical name m = map_to logical name (look_up m.physical name) (not (eqb (look_up m.physical name) 0)) m

-- whether the general map still shows a name under a logical register
abbrev pub shows : Core → ℕ → ℕ → Bool
shows m logical name = shown_by m.map logical name

-- both maps learn a name's register and valid bit, "the general map only if it still shows the name"
abbrev pub maps_learn : ℕ → ℕ → ℕ → Bool → Core → Core
maps_learn logical name register valid m =
    with_map (learned logical (record { name = name; register = register; valid = valid }) m.map) (with_physical (store_under m.physical name register) m)
