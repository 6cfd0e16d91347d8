-- What a completion with a register leaves, put together from its parts.
use Prim.Native.Nat.{ℕ}
use mathlib.Core.Path.{◌≡◌}
use mathlib.Core.Bool.{true}
use mathlib.Core.List.{List}
use Rattle.tables.specs.Table.{store_under}
use Rattle.tables.specs.FreeList.{taken}
use Rattle.tables.specs.GeneralMap as Maps
use Rattle.tables.specs.declared.FreeList.{FreeList}
use Rattle.tables.specs.declared.GeneralMap.{GeneralMap}
use Rattle.tables.specs.Entry.{completed_entry, wake_entry}
use Rattle.tables.specs.declared.Entry.{Entry}
use Rattle.renaming.specs.declared.Core.{Core}
use Rattle.renaming.specs.Changes.{entry_at, place, change_all}
use Rattle.renaming.specs.Setters.{with_map, with_physical, with_values, with_free_registers}
use Rattle.completing.specs.Complete.{learned}

pub learned_is : (m : Core) (position register result : ℕ) (done : Entry) (map : GeneralMap) (physical values : List ℕ) (pool : FreeList)
    → let e : Entry = entry_at m position in
    done ≡ completed_entry result e
    → map ≡ Maps.learned e.destination (record { name = e.name; register = register; valid = true }) m.map
    → physical ≡ store_under m.physical e.name register
    → values ≡ store_under m.values register result
    → pool ≡ taken m.free_registers
    → change_all (wake_entry e.name register)
    (with_map map (with_physical physical (with_values values (with_free_registers pool (place position done m)))))
    ≡ learned position register result m
unfolding learned
learned_is m position register result done map physical values pool a b c d f = rw (a, b, c, d, f)
