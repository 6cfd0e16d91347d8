-- What C gets: plain numbers.
use Rattle.std.specs.Prelude.{ℕ, ◌+◌, ◌*◌, ◌^◌, List}
use Rattle.isa.specs.Encodes.{Encoded}
use Rattle.bench.specs.Replay.{Replay}

-- 0 or the refusal, and the lent bytes
pub record Numbered : Type 0 where
  pub number : ℕ
  pub memory : List ℕ
  pub result : List ℕ

abbrev pub numbered : Replay → Numbered
numbered r = record { number = r.answer.number; memory = r.memory; result = r.result }

-- refusal × 2^32 + word
abbrev pub packed : Encoded → ℕ
packed e = e.refusal * 2 ^ 32 + e.word
