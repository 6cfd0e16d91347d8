-- Which entry enters, by what the program has.
use Prim.Native.Nat.{ℕ}
use mathlib.Core.Path.{◌≡◌}
use mathlib.Core.Bool.{true}
use borrow.Author.Tests.{eq-eqb, ne_eqb}
use Rattle.isa.specs.Reads.{none}
use Rattle.isa.specs.declared.Instruction.{Instruction}
use Rattle.reference.specs.Fetch.{FetchNumbers, no_instruction}
use Rattle.execution.specs.Execute.{stop}
use Rattle.execution.specs.Roles.{stop_at_once}
use Rattle.execution.specs.declared.Stop.{Stop}
use Rattle.renaming.specs.declared.Core.{Core}
use Rattle.decoding.specs.Decode.{ended_entry, started_entry, entry_for}

module _ (m : Core) (f : FetchNumbers) (guess : ℕ) where
  pub entry_none : (why : Stop) → no_instruction why ≡ f → (why.cause ≡ 0 → ⊥) → ended_entry m.fetch none why ≡ entry_for m f guess
  entry_none why e h = rw (← e, ne_eqb why.cause 0 h)

  pub entry_at_once : (i : Instruction) → record { found = true; stop = stop 0; fields = i } ≡ f → ((stop_at_once i).cause ≡ 0 → ⊥) → ended_entry m.fetch i (stop_at_once i) ≡ entry_for m f guess
  entry_at_once i e h = rw (← e, ne_eqb (stop_at_once i).cause 0 h)

  pub entry_waits : (i : Instruction) → record { found = true; stop = stop 0; fields = i } ≡ f → (stop_at_once i).cause ≡ 0 → started_entry m i guess ≡ entry_for m f guess
  entry_waits i e h = rw (← e, eq-eqb (stop_at_once i).cause 0 h)
