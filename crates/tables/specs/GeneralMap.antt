-- "The general map holds for each logical register 1–31 a name, a register and a valid bit."
use Rattle.std.specs.Prelude.{ℕ, Bool, false, eqb}
use Rattle.isa.specs.Reads.{choose}
use Rattle.tables.specs.Table.{look_under, store_under}
use Rattle.tables.specs.Operand.{shown_operand}
use Rattle.tables.specs.declared.Mapping.{Mapping}
use Rattle.tables.specs.declared.GeneralMap.{GeneralMap}
use Rattle.tables.specs.declared.Operand.{Operand}

-- what x0 shows: no name, no register, not valid
abbrev pub unmapped : Mapping
unmapped = record { name = 0; register = 0; valid = false }

-- what it holds for a logical register
abbrev pub shown : GeneralMap → ℕ → Mapping
shown map logical = look_under unmapped map.mappings logical

-- "operands come from the general map (ready if valid)"
abbrev pub operand_in : GeneralMap → ℕ → Operand
operand_in map logical = shown_operand logical (shown map logical).name (shown map logical).register (shown map logical).valid

-- it holds a name, a register and a valid bit for a logical register
abbrev pub mapped : ℕ → Mapping → GeneralMap → GeneralMap
mapped logical mapping map = record { mappings = store_under map.mappings logical mapping }

-- whether it still shows a name under a logical register
abbrev pub shown_by : GeneralMap → ℕ → ℕ → Bool
shown_by map logical name = eqb (shown map logical).name name

-- it learns a name's register and valid bit "only if it still shows the name"
abbrev pub learned : ℕ → Mapping → GeneralMap → GeneralMap
learned logical mapping map = choose (shown_by map logical mapping.name) (mapped logical mapping map) map
