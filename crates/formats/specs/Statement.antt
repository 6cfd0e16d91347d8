-- What holds of a schedule's chain.
use Rattle.std.specs.Prelude.{ℕ, ◌+◌, ◌<◌, ◌≡◌, List, [], length}
use Rattle.formats.specs.Schedule.{records, first_index}
use Rattle.formats.specs.Chain.{chain_refusal, schedule_refusal, events_from, events_of}

pub record Statement : Type 0 where
  -- the number that bounds the recursion does not matter: no chain reaches more records than there are
  pub refusal_bound : (schedule : List ℕ) (k : ℕ) → 0 < records schedule → chain_refusal (records schedule + k) schedule [] (first_index schedule) ≡ schedule_refusal schedule
  pub events_bound : (schedule : List ℕ) (k : ℕ) → 0 < records schedule → schedule_refusal schedule ≡ 0
      → events_from (records schedule + k) schedule (first_index schedule) ≡ events_of schedule
  -- record 0 is no event
  pub events_fewer : (schedule : List ℕ) → 0 < records schedule → schedule_refusal schedule ≡ 0 → length (events_of schedule) < records schedule
