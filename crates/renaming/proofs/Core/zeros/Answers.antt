use Rattle.std.proofs.Common.{rules}
use Rattle.tables.specs.Entry.{empty_entry}
use Rattle.tables.specs.GeneralMap.{unmapped}
use Rattle.renaming.proofs.DefaultLaws.{all_alike}
use Rattle.renaming.proofs.Core.zeros.Goals as goal

pub returns : goal.returns
returns c =
    let m = c.default.result in
    let d = c.default.ensures in
    let after_count = d.1.1 in
    let after_map = after_count.1.1 in
    let pools = after_map.1.1 in
    let entries = all_alike empty_entry (λ x p. search (rules, p)) 64 m.entries after_count.0 in
    let mappings = all_alike unmapped (λ x p. search (rules, p)) 32 m.map.mappings after_count.1.0 in
    let physical = all_alike 0 (λ x p. p) 96 m.physical after_map.0 in
    let values = all_alike 0 (λ x p. p) 96 m.values after_map.1.0 in
    let registers = all_alike 0 (λ x p. p) 96 m.free_registers.link pools.0.1 in
    let names = all_alike 0 (λ x p. p) 96 m.free_names.link pools.1.0.1 in
    search (rules, d, entries, mappings, physical, values, registers, names)
