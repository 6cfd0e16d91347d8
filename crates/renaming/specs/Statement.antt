-- What holds of the machine of every accepted set-up.
use Rattle.std.specs.Prelude.{ℕ, zero, suc, ◌-◌, ◌≡◌, true, List, [], ◌∷◌}
use Rattle.tables.specs.FreeList.{Pool}
use Rattle.renaming.specs.SetUp.{fresh_machine}
use Rattle.ranges.specs.Sizes.{set_up_refusal}
use Rattle.ranges.specs.declared.Setup.{Setup}
use Rattle.renaming.specs.Range.{machine_in_range}

-- count numbers from one on, in rising order
unfoldable pub rising : ℕ → ℕ → List ℕ
rising from zero = []
rising from (suc count) = from ∷ rising (suc from) count

pub record Fresh (s : Setup) : Type 0 where
  -- the free registers are 32 … N, the free names 32 … 31 + W
  pub freeregisters : Pool (fresh_machine s).free_registers.link (fresh_machine s).free_registers.head (rising 32 (s.registers - 31))
  pub freenames : Pool (fresh_machine s).free_names.link (fresh_machine s).free_names.head (rising 32 s.window)
  -- refusal 5 does not apply
  pub inrange : machine_in_range (fresh_machine s) ≡ true

abbrev pub Statement : Type 0
Statement = (s : Setup) → set_up_refusal s ≡ 0 → Fresh s
