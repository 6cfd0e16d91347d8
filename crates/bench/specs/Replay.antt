-- Replay.
use Rattle.std.specs.Prelude.{ℕ, not, List, [], ◌∷◌, eqb, length, drop, replicate, Result, Ok, Err}
use Rattle.isa.specs.Reads.{choose}
use Rattle.refusals.specs.Numbers.{number}
use Rattle.refusals.specs.declared.Refusal.{Refusal}
use Rattle.reference.specs.Step.{when, first, length_refusal}
use Rattle.ranges.specs.Sizes.{set_up_refusal}
use Rattle.window.specs.Report.{report_of}
use Rattle.formats.specs.Schedule.{head_refusal}
use Rattle.formats.specs.Chain.{schedule_refusal}
use Rattle.formats.specs.Rate.{rate_of}
use Rattle.formats.specs.Result.{result_length, result_bytes}
use Rattle.events.specs.Counts.{Played, no_counts}
use Rattle.events.specs.Play.{setup_in, played_of}
use Rattle.bench.specs.declared.Replayed.{Replayed}

-- "Replay 3, 4, 26, 20, 21, 1, 2, then, record after record along the chain, 22 and 23 for the index that leads to it and 24 and 25 for itself, all before any event."
unfoldable pub replay_refusal : List ℕ → List ℕ → List ℕ → ℕ → ℕ
replay_refusal program memory schedule size =
    first
    (length_refusal program memory
    ∷ when (not (eqb size result_length)) 26
    ∷ head_refusal schedule
    ∷ set_up_refusal (setup_in program memory schedule)
    ∷ schedule_refusal schedule
    ∷ [])

-- what the events come to: "Replay makes every event" (played_of)
abbrev pub figures_of : Played → Replayed
figures_of p =
    record {
      counts = p.counts;
      rate = rate_of p.counts.committed p.counts.accepted;
      halt = p.world.core.halt.cause;
      next = p.world.core.next;
      registers = (report_of p.world.core).registers;
    }

-- "accepted, refused, committed, steals, dropped entries, rate, halt cause (0 none), next address, x1–x31"
abbrev pub words_of : Replayed → List ℕ
words_of r =
    r.counts.accepted ∷ r.counts.refused ∷ r.counts.committed ∷ r.counts.steals ∷ r.counts.dropped ∷ r.rate ∷ r.halt ∷ r.next ∷ drop 1 r.registers

-- what replay answers: figures, with 0 or the refusal
pub record Answer : Type 0 where
  pub figures : Replayed
  pub number : ℕ

abbrev pub found : Replayed → Answer
found figures = record { figures = figures; number = 0 }

-- at a refusal
abbrev pub nothing : ℕ → Answer
nothing number = record { figures = record { counts = no_counts; rate = 0; halt = 0; next = 0; registers = replicate 32 0 }; number = number }

abbrev pub answer : Result Replayed Refusal → Answer
answer (Ok figures) = found figures
answer (Err refusal) = nothing (number refusal)

-- the answer, and the lent data and result
pub record Replay : Type 0 where
  pub answer : Answer
  pub memory : List ℕ
  pub result : List ℕ

abbrev pub replay_by : ℕ → Played → List ℕ → List ℕ → Replay
replay_by number p memory result =
    choose (eqb number 0)
    (record { answer = found (figures_of p); memory = p.world.memory; result = result_bytes (words_of (figures_of p)) })
    (record { answer = nothing number; memory = memory; result = result })

unfoldable pub replay_of : List ℕ → List ℕ → List ℕ → List ℕ → Replay
replay_of program memory schedule result = replay_by (replay_refusal program memory schedule (length result)) (played_of program memory schedule) memory result
