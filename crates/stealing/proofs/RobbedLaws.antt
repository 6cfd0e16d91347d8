-- What a theft leaves, put together from its parts.
use Prim.Native.Nat.{ℕ}
use mathlib.Core.Path.{◌≡◌}
use mathlib.Core.Bool.{false}
use mathlib.Core.List.{List}
use Rattle.tables.specs.Table.{store_under}
use Rattle.tables.specs.GeneralMap.{learned}
use Rattle.tables.specs.declared.GeneralMap.{GeneralMap}
use Rattle.tables.specs.Entry.{waiting_entry, sleep_entry}
use Rattle.tables.specs.declared.Entry.{Entry}
use Rattle.renaming.specs.declared.Core.{Core}
use Rattle.renaming.specs.Changes.{entry_at, place, change_all}
use Rattle.renaming.specs.Setters.{with_map, with_physical}
use Rattle.stealing.specs.Steal.{robbed}

pub robbed_is : (m : Core) (victim : ℕ) (again : Entry) (map : GeneralMap) (physical : List ℕ)
    → let e : Entry = entry_at m victim in
    again ≡ waiting_entry e
    → map ≡ learned e.destination (record { name = e.name; register = 0; valid = false }) m.map
    → physical ≡ store_under m.physical e.name 0
    → change_all (sleep_entry e.name) (with_map map (with_physical physical (place victim again m))) ≡ robbed victim m
unfolding robbed
robbed_is m victim again map physical a b c = rw (a, b, c)
