-- "The report gives the 31 committed registers: the maps as if all entries were dropped."
use Rattle.std.specs.Prelude.{ℕ, List}
use Rattle.tables.specs.Table.{look_up}
use Rattle.tables.specs.GeneralMap.{shown}
use Rattle.renaming.specs.Core.{tabulate}
use Rattle.renaming.specs.Drop.{drop_to}
use Rattle.renaming.specs.declared.Core.{Core}

-- the value of a logical register; 0 for x0
abbrev pub value_in : Core → ℕ → ℕ
value_in m r = look_up m.values (shown m.map r).register

-- all values, by logical register
unfoldable pub values_in : Core → List ℕ
values_in m = tabulate 32 (value_in m)

abbrev pub committed_values : Core → List ℕ
committed_values m = values_in (drop_to 0 m)
