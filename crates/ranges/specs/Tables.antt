-- What refusal 5 looks at in the tables.
use Rattle.std.specs.Prelude.{ℕ, zero, suc, Bool, true, ◌&&◌, List, leb, get_or}
use Rattle.execution.specs.declared.Stop.{Stop}
use Rattle.tables.specs.GeneralMap.{unmapped}
use Rattle.tables.specs.declared.FreeList.{FreeList}
use Rattle.tables.specs.declared.Mapping.{Mapping}
use Rattle.tables.specs.declared.GeneralMap.{GeneralMap}
use Rattle.ranges.specs.Sizes.{last_logical, names_of}
use Rattle.ranges.specs.declared.Setup.{Setup}

-- count elements of a table, from an index on, pass a test
unfoldable pub every_from : {A : Type 0} → (A → Bool) → A → ℕ → ℕ → List A → Bool
every_from test default from zero table = true
every_from test default from (suc count) table = test (get_or table from default) && every_from test default (suc from) count table

-- count numbers of a table, from an index on, are at most the limit
abbrev pub within : ℕ → ℕ → ℕ → List ℕ → Bool
within limit from count table = every_from (λ (n : ℕ). leb n limit) 0 from count table

-- a mapping's name and register are at most these
abbrev pub mapping_within : ℕ → ℕ → Mapping → Bool
mapping_within last_name last_register mapping = leb mapping.name last_name && leb mapping.register last_register

-- heads and links of the pools, the physical map, the general map, the halt's cause
unfoldable pub tables_within : Setup → FreeList → FreeList → List ℕ → GeneralMap → Stop → Bool
tables_within s free_registers free_names physical map halt =
    leb free_registers.head s.registers
    && within s.registers 1 s.registers free_registers.link
    && leb free_names.head (names_of s.window)
    && within (names_of s.window) 1 (names_of s.window) free_names.link
    && within s.registers 1 (names_of s.window) physical
    && every_from (mapping_within (names_of s.window) s.registers) unmapped 1 last_logical map.mappings
    && leb halt.cause 7
