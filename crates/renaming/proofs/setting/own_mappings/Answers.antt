use Rattle.std.proofs.Common.{of_calls, ◌∙◌, ◌≡◌, ◌<◌, ℕ, sym, subst, get_or, map}
use lib.Seq.{ext_get_or}
use lib.ListN.{get_or-map}
use Rattle.tables.specs.GeneralMap.{unmapped}
use Rattle.renaming.specs.SetUp.{own_numbers, own_mapping}
use Rattle.renaming.proofs.setting.own_mappings.Goals as goal

pub returns : goal.returns
returns c =
    let items = c.map.ensures.items in
    ext_get_or unmapped c.map.result (map own_mapping own_numbers) items.long
    (λ i h. let called = items.at i 0 unmapped (subst (λ (n : ℕ). i < n) items.long h) in
    let own : get_or c.map.result i unmapped ≡ own_mapping (get_or own_numbers i 0) = search (of_calls, called.2) parts 8 in own ∙ sym (get_or-map own_mapping own_numbers i 0))
