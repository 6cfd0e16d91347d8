-- What a replay that is not refused comes to.
use Rattle.std.specs.Prelude.{ℕ, ◌+◌, ◌≡◌, List, length}
use Rattle.reference.specs.Run.{run_of}
use Rattle.agreement.specs.Lists.{accepted_commits, origin}
use Rattle.agreement.specs.Statement.{Agrees}
use Rattle.formats.specs.Chain.{events_of}
use Rattle.formats.specs.Result.{result_length}
use Rattle.events.specs.Counts.{Played}
use Rattle.events.specs.Play.{played_from, played_of}
use Rattle.events.specs.Statement.{calls_of}
use Rattle.bench.specs.Replay.{replay_refusal}

pub record Statement : Type 0 where
  -- "Replay makes every event, counting refused ones."
  pub counted : (program memory schedule : List ℕ) → replay_refusal program memory schedule result_length ≡ 0
      → let p : Played = played_of program memory schedule in p.counts.accepted + p.counts.refused ≡ length (events_of schedule)
  -- demand 3: registers, next address, halt and data are those of the in-order run asked for as many steps as there were accepted commits
  pub agrees : (program memory schedule : List ℕ) → replay_refusal program memory schedule result_length ≡ 0
      → let commits : ℕ = accepted_commits program (calls_of (events_of schedule)) (played_from program memory schedule).world in
      Agrees program (played_of program memory schedule).world commits (run_of commits program (origin memory))
  -- "Committed counts commits without a halt": as many as that run makes steps
  pub committed : (program memory schedule : List ℕ) → replay_refusal program memory schedule result_length ≡ 0
      → let commits : ℕ = accepted_commits program (calls_of (events_of schedule)) (played_from program memory schedule).world in
      (played_of program memory schedule).counts.committed ≡ (run_of commits program (origin memory)).steps
