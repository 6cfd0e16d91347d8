use mathlib.Core.Path.{◌≡◌, sym, ◌∙◌}
use mathlib.Core.List.{[]}
use native.Mathlib.Omega.{arith}
use borrow.Author.Rules.{rules}
use lib.ListN.{length}
use Rattle.formats.specs.Result.{result_words}
use Rattle.formats.proofs.ResultLaws.{bytes_of}
use Rattle.formats.proofs.result.lay.Goals as goal

pub copy_from_slice-requires : goal.copy_from_slice-requires
copy_from_slice-requires c = omega (arith, c.requires, c.as_flattened.ensures.len, c.map.ensures.items.long)

pub returns : goal.returns
returns c =
    let words : length c.args.words ≡ result_words = search rules in
    let parts = c.map.ensures.items in
    c.copy_from_slice.ensures.after ∙ c.as_flattened.ensures.value
    ∙ bytes_of c.args.words c.map.result (parts.long ∙ sym words) (λ i l. let call = (parts.at i 0 [] (omega arith)).2 in search rules)
