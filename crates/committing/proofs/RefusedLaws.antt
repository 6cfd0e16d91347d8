-- Which refusal a commit meets, condition by condition.
use mathlib.Core.Path.{◌≡◌}
use mathlib.Core.Bool.{true, false}
use Rattle.reference.specs.Step.{first}
use Rattle.tables.specs.Entry.{is_completed}
use Rattle.renaming.specs.declared.Core.{Core}
use Rattle.renaming.specs.Call.{halted, no_entry}
use Rattle.renaming.specs.Changes.{entry_at}
use Rattle.committing.specs.Commit.{commit_refusal}

module _ (m : Core) where
  pub refused_halted : halted m ≡ true → 10 ≡ commit_refusal m
  unfolding commit_refusal first
  refused_halted h = rw h

  pub refused_place : halted m ≡ false → no_entry m 0 ≡ true → 12 ≡ commit_refusal m
  unfolding commit_refusal first
  refused_place h n = rw (h, n)

  pub refused_state : halted m ≡ false → no_entry m 0 ≡ false → is_completed (entry_at m 0).state ≡ false → 13 ≡ commit_refusal m
  unfolding commit_refusal first
  refused_state h n s = rw (h, n, s)

  pub not_refused : halted m ≡ false → no_entry m 0 ≡ false → is_completed (entry_at m 0).state ≡ true → 0 ≡ commit_refusal m
  unfolding commit_refusal first
  not_refused h n s = rw (h, n, s)
