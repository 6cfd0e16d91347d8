use Rattle.std.proofs.Common.{rules, ◌+◌, inl, inr}
use Rattle.std.proofs.lemmas.Bool.{cases_lt}
use Rattle.std.proofs.lemmas.List.{places, get_or-replicate}
use Rattle.std.proofs.Math.ListN.{get_or-eq_default}
use Rattle.vectors.proofs.lay.Goals as goal

pub returns-then-place-buffer : goal.returns-then-place-buffer
returns-then-place-buffer c = λ k less. (
  λ below. search (rules, places, get_or-replicate),
  λ from.
      elim (cases_lt k (c.args.place + c.min-end.result)) [
        | inl within ↦ search (rules, places)
        | inr past ↦ search (rules, places, get_or-replicate, get_or-eq_default)
      ],
)
