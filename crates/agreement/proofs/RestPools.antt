-- What the accounting says of the pools and the maps between calls.
use Prim.Native.Nat.{ℕ, zero, suc, ◌≤◌}
use mathlib.Core.Path.{◌≡◌, sym, ap, ◌∙◌}
use mathlib.Core.Logic.{◌≢◌}
use mathlib.Core.Bool.{not}
use mathlib.Core.List.{List, map}
use native.Mathlib.Omega.{arith}
use native.Mathlib.Decide.{dec_le}
use borrow.Author.Tests.{eqb-true, eq-eqb, not-false}
use lib.Dec.{eqb}
use lib.ListN.{get_or}
use Rattle.laws.proofs.Bools.{impossible}
use Rattle.tables.specs.Table.{look_up}
use Rattle.tables.specs.FreeList.{Spells, occurrences}
use Rattle.tables.specs.GeneralMap.{shown}
use Rattle.tables.specs.declared.FreeList.{FreeList}
use Rattle.tables.specs.declared.Mapping.{Mapping}
use Rattle.tables.proofs.MapLaws.{map_names, map_registers, shown_name, shown_register}
use Rattle.renaming.specs.declared.Core.{Core}
use Rattle.agreement.specs.Resting.{MappingRests, PoolRests}
use Rattle.agreement.proofs.View.{View, view_of}
use Rattle.agreement.proofs.Ghost.{Ghost}
use Rattle.agreement.proofs.Pools.{name_of, RegisterPool, NamePool}
use Rattle.agreement.proofs.Invariant.{Accounting}
use Rattle.agreement.proofs.Counting.{spells_one}
use Rattle.agreement.proofs.Every.{all_occurring}
use Rattle.agreement.proofs.NamePools.{name_most}
use Rattle.agreement.proofs.Stores.{look_get}
use Rattle.agreement.proofs.Kept.{Kept}
use Rattle.agreement.proofs.Tidy.{Tidy}
use Rattle.agreement.proofs.Tidied.{accounted_tidy}

pool_rests : (pool : FreeList) (free : List ℕ) → Spells pool.link pool.head free → ((k : ℕ) → occurrences k free ≤ 1) → get_or pool.link 0 0 ≡ 0
    → ((k : ℕ) → occurrences k free ≡ 0 → get_or pool.link k 0 ≡ 0) → PoolRests pool
pool_rests pool free s once z outside =
    record {
      numbers = free;
      chain = record { spells = s; once = once; outside = λ k o. look_get pool.link k z ∙ outside k o };
      alone = λ others t. spells_one pool.link pool.head others free t s;
    }

module _ (g : Ghost) (committed : List ℕ) (c : View) (accounting : Accounting g committed c) where
  abbrev free_registers : List ℕ
  free_registers = accounting.free_registers

  abbrev free_names : List ℕ
  free_names = accounting.free_names

  abbrev register_pool : RegisterPool c.setup.registers c.physical c.free_registers.head c.free_registers.link free_registers
  register_pool = accounting.register_pool

  abbrev name_pool : NamePool c.setup.window committed (map name_of c.entries) c.free_names.head c.free_names.link free_names
  name_pool = accounting.name_pool

  register_once : (k : ℕ) → occurrences k free_registers ≤ 1
  register_once zero = omega (arith, register_pool.zero_free)
  register_once (suc k) = at (dec_le (suc k) c.setup.registers)
    where
      at : Dec (suc k ≤ c.setup.registers) → occurrences (suc k) free_registers ≤ 1
      at (yes h) = omega (arith, register_pool.once (suc k) (omega arith) h)
      at (no h) = omega (arith, register_pool.beyond (suc k) (omega arith))

  name_once : (k : ℕ) → occurrences k free_names ≤ 1
  name_once zero = omega (arith, name_pool.zero_free)
  name_once (suc k) = omega (arith, name_most c.setup.window committed (map name_of c.entries) c.free_names.head c.free_names.link free_names name_pool (suc k) (omega arith))

  pub registers_rest : PoolRests c.free_registers
  registers_rest = pool_rests c.free_registers free_registers register_pool.spells register_once register_pool.zero_link register_pool.outside

  pub names_rest : PoolRests c.free_names
  names_rest = pool_rests c.free_names free_names name_pool.spells name_once name_pool.zero_link name_pool.outside

  pub freed_rests : (name : ℕ) → occurrences name names_rest.numbers ≢ 0 → look_up c.physical name ≡ 0
  unfolding names_rest pool_rests
  freed_rests name o =
      look_get c.physical name accounting.contents.valued.zero_register ∙ all_occurring (λ k. get_or c.physical k 0 ≡ 0) free_names name o accounting.live.unused

-- the general map
module _ (m : Core) (k : Kept m) (g : Ghost) (committed : List ℕ) (accounting : Accounting g committed (view_of m)) (logical : ℕ) where
  abbrev x : Mapping
  x = shown m.map logical

  tidy : Tidy (view_of m)
  tidy = accounted_tidy g committed (view_of m) accounting

  name_is : x.name ≡ get_or (map_names m.map) logical 0
  name_is = shown_name m.map logical ∙ look_get (map_names m.map) logical tidy.names

  register_is : x.register ≡ get_or (map_registers m.map) logical 0
  register_is = shown_register m.map logical ∙ look_get (map_registers m.map) logical tidy.registers

  pub mapping_rests : MappingRests m.physical x
  mapping_rests =
      record {
        clear = λ e. eqb-true x.register 0 (not-false (eqb x.register 0) (sym (k.valid logical) ∙ e));
        set = λ e z. impossible (sym (k.valid logical ∙ ap not (eq-eqb x.register 0 z)) ∙ e);
        same = register_is ∙ accounting.general.gives logical ∙ ap (λ (n : ℕ). get_or m.physical n 0) (sym name_is) ∙ sym (look_get m.physical x.name tidy.physical);
      }
