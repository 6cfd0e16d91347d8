-- "Drop, youngest first: the entry's register, then its name, are freed; the previous name returns, with register and valid bit from the physical map."
use Rattle.std.specs.Prelude.{ℕ, zero, suc, ◌-◌, set}
use Rattle.tables.specs.Entry.{empty_entry, held}
use Rattle.tables.specs.declared.Entry.{Entry}
use Rattle.renaming.specs.declared.Core.{Core}
use Rattle.renaming.specs.Setters.{with_count, with_entries}
use Rattle.renaming.specs.Changes.{entry_at, free_register, free_name, restore}

-- the youngest entry's place becomes empty
abbrev pub vacated : Core → Core
vacated m = with_count (m.count - 1) (with_entries (set m.entries (m.count - 1) empty_entry) m)

abbrev pub drop_entry : Core → Entry → Core
drop_entry m e = restore e.destination e.previous (free_name e.name (free_register (held m.physical e) (vacated m)))

-- without the youngest entry
unfoldable pub drop_youngest : Core → Core
drop_youngest m = drop_entry m (entry_at m (m.count - 1))

-- without the youngest entries, so many, youngest first
unfoldable pub drop_many : ℕ → Core → Core
drop_many zero m = m
drop_many (suc n) m = drop_many n (drop_youngest m)

-- the oldest entries alone, so many; the entries younger than a position are dropped where position + 1 are kept
abbrev pub drop_to : ℕ → Core → Core
drop_to kept m = drop_many (m.count - kept) m
