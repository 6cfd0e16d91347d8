use Rattle.std.proofs.Common.{◌≡◌, ◌<◌, ◌≤◌, ◌+◌, ◌∙◌, rules, sym, length, drop, arith, length-drop}
use Rattle.std.proofs.lemmas.List.{length-take}
use Rattle.tables.specs.GeneralMap.{unmapped}
use Rattle.ranges.specs.Tables.{mapping_within}
use Rattle.ranges.proofs.TableLaws.{every_next, every_done}
use Rattle.ranges.proofs.table.mappings_within.Goals as goal

pub loop-mapping-preserved : goal.loop-mapping-preserved
loop-mapping-preserved c =
    let a = c.args in
    let l = c.loop-mapping in
    let table = a.map.now.mappings in
    let inside : l.mapping-index < 31 = omega (arith, length-take 31 (drop 1 table), c.loop-mapping-test.true) in
    every_next (mapping_within a.last_name a.last_register) unmapped 31 31 l.mapping-index l.good table inside inside ∙ l.invariant

pub returns : goal.returns
returns c =
    let a = c.args in
    let l = c.loop-mapping in
    let table = a.map.now.mappings in
    let long : length table ≡ 32 = search rules in
    let outside : 31 ≤ l.mapping-index = omega (arith, length-take 31 (drop 1 table), length-drop 1 table, c.loop-mapping-test.false) in
    sym (every_done (mapping_within a.last_name a.last_register) unmapped 31 l.mapping-index (l.mapping-index + 1) l.good table outside) ∙ l.invariant
