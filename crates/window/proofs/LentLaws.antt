-- What 5 and 6 leave: the machine as it came, or the sizes of one in range.
use Rattle.std.proofs.Common.{◌≡◌, ℕ, ◌≤◌, List, Result, sym, ap, ◌∙◌}
use Rattle.std.specs.Result.{IsErrAnd}
use Rattle.refusals.specs.Numbers.{number}
use Rattle.refusals.specs.declared.Refusal.{Refusal}
use Rattle.refusals.proofs.Laws.{number_some, handed_on}
use Rattle.ranges.specs.Sizes.{most_entries}
use Rattle.renaming.specs.Answer.{answer}
use Rattle.renaming.specs.Call.{lent_refusal, in_turn, answered}
use Rattle.renaming.specs.declared.Core.{Core}
use Rattle.renaming.proofs.RangeLaws.{in_range_count}
use Rattle.renaming.proofs.RefusalLaws.{answered_refused, lent_first, in_range_lent, in_range_window}

module _ (m : Core) (program memory : List ℕ) (none : 0 ≡ lent_refusal m program memory) where
  pub lent_window : m.setup.window ≤ most_entries
  lent_window = in_range_window m (in_range_lent m program memory (sym none))

  pub lent_count : m.count ≤ most_entries
  lent_count = in_range_count m (in_range_lent m program memory (sym none))

pub first_refused : (lent own number : ℕ) → number ≡ lent → (number ≡ 0 → ⊥) → number ≡ in_turn lent own
first_refused lent own number e some = e ∙ lent_first lent own (λ z. some (e ∙ z))

pub lent_refused : (m next : Core) (lent own number : ℕ) → number ≡ lent → (number ≡ 0 → ⊥) → record { core = m; number = number } ≡ answered m (in_turn lent own) next
lent_refused m next lent own number e some = answered_refused m next (in_turn lent own) number (first_refused lent own number e some) some

-- as `?` hands it on
pub lent_handed : {A : Type 0} (m next : Core) (own lent : ℕ) (refusal : Refusal) (result : Result A Refusal) → IsErrAnd result (λ x. x ≡ refusal) → number refusal ≡ lent
    → answer m result ≡ answered m (in_turn lent own) next
lent_handed m next own lent refusal result h e = ap (answer m) (handed_on result refusal h) ∙ lent_refused m next lent own (number refusal) e (number_some refusal)
