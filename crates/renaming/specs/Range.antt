-- Refusal 5: "a number in it out of range".
use Rattle.std.specs.Prelude.{ℕ, Bool, ◌&&◌, List, leb}
use Rattle.tables.specs.Entry.{empty_entry}
use Rattle.tables.specs.declared.Entry.{Entry}
use Rattle.ranges.specs.Sizes.{setup_in_range}
use Rattle.ranges.specs.Entries.{entry_in_range}
use Rattle.ranges.specs.Tables.{every_from, tables_within}
use Rattle.ranges.specs.declared.Setup.{Setup}
use Rattle.renaming.specs.declared.Core.{Core}

-- "entries past the count, and names and registers past their limits, are not looked at"
abbrev pub entries_in_range : Setup → ℕ → List Entry → Bool
entries_in_range s count entries = every_from (entry_in_range s) empty_entry 0 count entries

abbrev pub tables_in_range : Core → Bool
tables_in_range m =
    tables_within m.setup m.free_registers m.free_names m.physical m.map m.halt

unfoldable pub machine_in_range : Core → Bool
machine_in_range m =
    setup_in_range m.setup && leb m.count m.setup.window && tables_in_range m && entries_in_range m.setup m.count m.entries
