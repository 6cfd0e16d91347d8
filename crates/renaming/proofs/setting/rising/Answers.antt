use Rattle.std.proofs.Common.{◌∙◌, sym, ap, arith, List, ℕ, rules, tests}
use lib.Seq.{ext_get_or}
use Rattle.renaming.specs.SetUp.{rising_next, rising_link}
use Rattle.renaming.proofs.TabulateLaws.{tabulate_length, tabulate_at}
use Rattle.renaming.proofs.FunctionLaws.{made_at}
use Rattle.renaming.proofs.setting.rising.Goals as goal

pub returns : goal.returns
unfolding rising_link
returns c =
    let items = c.from_fn-link.ensures.items in
    let last = c.args.last in
    ap (λ (link : List ℕ). record { head = 32; link = link })
    (ext_get_or 0 c.from_fn-link.result (rising_link last) (items.long ∙ sym (tabulate_length 96 0 (rising_next last)))
    (λ i h. made_at _ _ (rising_next last) (λ k y q called. search (rules, tests)) 96 i c.from_fn-link.result 0 items (omega (arith, items.long)) ∙ sym (tabulate_at 96 i (rising_next last) (omega (arith, items.long)))))
