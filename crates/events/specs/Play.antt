-- All the events of a schedule, on the machine of its set-up.
use Rattle.std.specs.Prelude.{ℕ, ◌≡◌, true, List, length}
use Rattle.formats.specs.Schedule.{schedule_fits, window_in, registers_in}
use Rattle.formats.specs.Chain.{schedule_refusal, events_of}
use Rattle.renaming.specs.SetUp.{fresh_machine}
use Rattle.ranges.specs.Sizes.{setup_of, set_up_refusal}
use Rattle.ranges.specs.declared.Setup.{Setup}
use Rattle.renaming.specs.declared.Core.{Core}
use Rattle.agreement.specs.Lists.{started}
use Rattle.events.specs.Counts.{Played, played_all, no_counts}

-- record 0's W and N, with the lengths of the lent program and data
abbrev pub setup_in : List ℕ → List ℕ → List ℕ → Setup
setup_in program memory schedule = setup_of (window_in schedule) (registers_in schedule) (length program) (length memory)

-- the machine of that set-up, and a schedule, neither of them refused
pub record Ready (m : Core) (program memory schedule : List ℕ) : Type 0 where
  pub fresh : m ≡ fresh_machine (setup_in program memory schedule)
  pub accepted : set_up_refusal (setup_in program memory schedule) ≡ 0
  pub fits : schedule_fits (length schedule) ≡ true
  pub chain : schedule_refusal schedule ≡ 0

abbrev pub played_from : List ℕ → List ℕ → List ℕ → Played
played_from program memory schedule = record { world = started (setup_in program memory schedule) memory; counts = no_counts }

unfoldable pub played_of : List ℕ → List ℕ → List ℕ → Played
played_of program memory schedule = played_all program (events_of schedule) (played_from program memory schedule)
