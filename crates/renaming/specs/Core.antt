-- The core: all that document 01's machine holds. Definitions speak of it; a buyer holds it as `window::Machine`.
use Rattle.std.specs.Prelude.{ℕ, zero, suc, List, [], ◌∷◌, replicate}
use Rattle.execution.specs.Execute.{stop}
use Rattle.tables.specs.Table.{places}
use Rattle.tables.specs.GeneralMap.{unmapped}
use Rattle.tables.specs.Entry.{empty_entry}
use Rattle.ranges.specs.Sizes.{setup_of, most_entries}
use Rattle.renaming.specs.declared.Core.{Core}

-- f at 0, 1, …, n − 1
unfoldable pub tabulate_from : ℕ → ℕ → (ℕ → ℕ) → List ℕ
tabulate_from k zero f = []
tabulate_from k (suc n) f = f k ∷ tabulate_from (suc k) n f

abbrev pub tabulate : ℕ → (ℕ → ℕ) → List ℕ
tabulate n f = tabulate_from 0 n f

-- "a machine of zeros"
abbrev pub zero_machine : Core
zero_machine =
    record {
      setup = setup_of 0 0 0 0;
      count = 0;
      entries = replicate most_entries empty_entry;
      map = record { mappings = replicate 32 unmapped };
      physical = replicate places 0;
      values = replicate places 0;
      free_registers = record { head = 0; link = replicate places 0 };
      free_names = record { head = 0; link = replicate places 0 };
      fetch = 0;
      next = 0;
      halt = stop 0;
    }
