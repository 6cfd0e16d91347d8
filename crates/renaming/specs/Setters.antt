-- A machine with one of its parts changed.
use Rattle.std.specs.Prelude.{ℕ, List}
use Rattle.execution.specs.declared.Stop.{Stop}
use Rattle.tables.specs.declared.FreeList.{FreeList}
use Rattle.tables.specs.declared.GeneralMap.{GeneralMap}
use Rattle.tables.specs.declared.Entry.{Entry}
use Rattle.renaming.specs.declared.Core.{Core}

-- the entries in the window
abbrev pub with_count : ℕ → Core → Core
with_count count m = record m { count = count }

abbrev pub with_entries : List Entry → Core → Core
with_entries entries m = record m { entries = entries }

-- the general map
abbrev pub with_map : GeneralMap → Core → Core
with_map map m = record m { map = map }

-- the physical map
abbrev pub with_physical : List ℕ → Core → Core
with_physical physical m = record m { physical = physical }

-- the registers' values
abbrev pub with_values : List ℕ → Core → Core
with_values values m = record m { values = values }

-- the pool of registers
abbrev pub with_free_registers : FreeList → Core → Core
with_free_registers pool m = record m { free_registers = pool }

-- the pool of names
abbrev pub with_free_names : FreeList → Core → Core
with_free_names pool m = record m { free_names = pool }

-- the fetch address
abbrev pub with_fetch : ℕ → Core → Core
with_fetch fetch m = record m { fetch = fetch }

-- the next address
abbrev pub with_next : ℕ → Core → Core
with_next next m = record m { next = next }

-- the halt's cause
abbrev pub with_halt : Stop → Core → Core
with_halt halt m = record m { halt = halt }
