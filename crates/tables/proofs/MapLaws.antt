-- The general map, field by field: what its names, registers and valid bits are after a change.
use Prim.Native.Nat.{ℕ, zero, suc}
use mathlib.Core.Path.{◌≡◌, refl, sym, ap, ◌∙◌}
use mathlib.Core.Bool.{Bool, true, false, not}
use mathlib.Core.List.{List, [], ◌∷◌, map}
use borrow.Author.Tests.{eqb-true}
use lib.Dec.{eqb}
use lib.ListN.{length, get_or, set, get_or-map}
use lib.Seq.{set-get_or}
use Rattle.std.proofs.lemmas.List.{map-set}
use Rattle.isa.specs.Reads.{choose}
use Rattle.tables.specs.Table.{look_under, look_up, store_under}
use Rattle.tables.specs.GeneralMap.{unmapped, shown, mapped, shown_by, learned}
use Rattle.tables.specs.declared.Mapping.{Mapping}
use Rattle.tables.specs.declared.GeneralMap.{GeneralMap}
use Rattle.tables.proofs.TableLaws.{store_length}

-- a field of what stands under a number is what stands under it in the list of that field
module _ {A B : Type 0} (field : A → B) (table : List A) (n : ℕ) where
  pub look_field : (none : A) → field (look_under none table n) ≡ look_under (field none) (map field table) n
  unfolding look_under
  look_field none = at (eqb n 0)
    where
      at : (b : Bool) → field (choose b none (get_or table n none)) ≡ choose b (field none) (get_or (map field table) n (field none))
      at true = refl
      at false = sym (get_or-map field table n none)

  pub store_field : (value : A) → map field (store_under table n value) ≡ store_under (map field table) n (field value)
  unfolding store_under
  store_field value = at (eqb n 0)
    where
      at : (b : Bool) → map field (choose b table (set table n value)) ≡ choose b (map field table) (set (map field table) n (field value))
      at true = refl
      at false = map-set field table n value

-- storing what stands there changes nothing
store_same : (table : List ℕ) (n value : ℕ) → look_up table n ≡ value → store_under table n value ≡ table
unfolding look_under store_under
store_same table n value = at (eqb n 0)
  where
    at : (b : Bool) → choose b 0 (get_or table n 0) ≡ value → choose b table (set table n value) ≡ table
    at true e = refl
    at false e = ap (set table n) (sym e) ∙ set-get_or table n 0

-- what holds of all that a table shows holds after a store of what it holds of, too
module _ {A : Type 0} (Holds : A → Type 0) (none value : A) (stored : Holds value) where
  set_holds : (table : List A) (n k : ℕ) → Holds (get_or table k none) → Holds (get_or (set table n value) k none)
  set_holds [] n k h = h
  set_holds (x ∷ table) zero zero h = stored
  set_holds (x ∷ table) zero (suc k) h = h
  set_holds (x ∷ table) (suc n) zero h = h
  set_holds (x ∷ table) (suc n) (suc k) h = set_holds table n k h

  pub store_holds : (table : List A) (n k : ℕ) → Holds (look_under none table k) → Holds (look_under none (store_under table n value) k)
  unfolding look_under store_under
  store_holds table n k = at (eqb n 0) (eqb k 0)
    where
      at : (b c : Bool) → Holds (choose c none (get_or table k none)) → Holds (choose c none (get_or (choose b table (set table n value)) k none))
      at b true h = h
      at true false h = h
      at false false h = set_holds table n k h

-- its names and its registers, by logical register
abbrev pub map_names : GeneralMap → List ℕ
map_names m = map (λ (x : Mapping). x.name) m.mappings

abbrev pub map_registers : GeneralMap → List ℕ
map_registers m = map (λ (x : Mapping). x.register) m.mappings

module _ (m : GeneralMap) (logical : ℕ) where
  pub shown_name : (shown m logical).name ≡ look_up (map_names m) logical
  shown_name = look_field (λ (x : Mapping). x.name) m.mappings logical unmapped

  pub shown_register : (shown m logical).register ≡ look_up (map_registers m) logical
  shown_register = look_field (λ (x : Mapping). x.register) m.mappings logical unmapped

  module _ (mapping : Mapping) where
    pub mapped_names : map_names (mapped logical mapping m) ≡ store_under (map_names m) logical mapping.name
    mapped_names = store_field (λ (x : Mapping). x.name) m.mappings logical mapping

    pub mapped_registers : map_registers (mapped logical mapping m) ≡ store_under (map_registers m) logical mapping.register
    mapped_registers = store_field (λ (x : Mapping). x.register) m.mappings logical mapping

    pub learned_names : map_names (learned logical mapping m) ≡ map_names m
    learned_names = at (shown_by m logical mapping.name) refl
      where
        at : (b : Bool) → shown_by m logical mapping.name ≡ b → map_names (choose b (mapped logical mapping m) m) ≡ map_names m
        at true e = mapped_names ∙ store_same (map_names m) logical mapping.name (sym shown_name ∙ eqb-true (shown m logical).name mapping.name e)
        at false e = refl

    pub learned_registers : map_registers (learned logical mapping m)
        ≡ choose (eqb (look_up (map_names m) logical) mapping.name) (store_under (map_registers m) logical mapping.register) (map_registers m)
    learned_registers = at (shown_by m logical mapping.name)
        ∙ ap (λ (n : ℕ). choose (eqb n mapping.name) (store_under (map_registers m) logical mapping.register) (map_registers m)) shown_name
      where
        at : (b : Bool) → map_registers (choose b (mapped logical mapping m) m) ≡ choose b (store_under (map_registers m) logical mapping.register) (map_registers m)
        at true = mapped_registers
        at false = refl

    pub learned_length : length (learned logical mapping m).mappings ≡ length m.mappings
    learned_length = at (shown_by m logical mapping.name)
      where
        at : (b : Bool) → length (choose b (mapped logical mapping m) m).mappings ≡ length m.mappings
        at true = store_length m.mappings logical mapping
        at false = refl

-- "The general map's register is zero while valid is clear": a valid bit says that there is a register
abbrev pub Bit : Mapping → Type 0
Bit x = x.valid ≡ not (eqb x.register 0)

abbrev pub Valid : GeneralMap → Type 0
Valid m = (r : ℕ) → Bit (shown m r)

module _ (m : GeneralMap) (logical : ℕ) (mapping : Mapping) (bit : Bit mapping) (valid : Valid m) where
  pub mapped_valid : Valid (mapped logical mapping m)
  mapped_valid r = store_holds Bit unmapped mapping bit m.mappings logical r (valid r)

  pub learned_valid : Valid (learned logical mapping m)
  learned_valid = at (shown_by m logical mapping.name)
    where
      at : (b : Bool) → Valid (choose b (mapped logical mapping m) m)
      at true = mapped_valid
      at false = valid
