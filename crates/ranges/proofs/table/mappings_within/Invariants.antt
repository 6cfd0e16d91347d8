use Rattle.std.proofs.Common.{◌≡◌, ◌+◌, ◌-◌, ◌&&◌}
use Rattle.tables.specs.GeneralMap.{unmapped}
use Rattle.ranges.specs.Tables.{every_from, mapping_within}
use Rattle.ranges.proofs.table.mappings_within.Given as goal

abbrev pub invariant-loop-mapping : goal.invariant-loop-mapping
invariant-loop-mapping l =
    l.good && every_from (mapping_within l.last_name l.last_register) unmapped (l.mapping-index + 1) (31 - l.mapping-index) l.map.mappings
    ≡ every_from (mapping_within l.last_name l.last_register) unmapped 1 31 l.map.mappings
