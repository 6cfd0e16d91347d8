-- What the code of the counts sees, their bounds, and what has been played, as code holds it. Nothing that a buyer cites depends on it.
use Rattle.std.specs.Prelude.{ℕ, ◌+◌, ◌-◌, ◌≤◌, Bool, List, eqb}
use Rattle.isa.specs.Reads.{choose}
use Rattle.renaming.specs.declared.Core.{Core}
use Rattle.window.specs.declared.Call.{Call}
use Rattle.window.specs.declared.Call.TheVariants.{Decode, Issue, Complete, Commit}
use Rattle.events.specs.declared.Counts.{Counts}
use Rattle.events.specs.Counts.{Played, commits}

-- every count is at most so much
pub record Small (limit : ℕ) (c : Counts) : Type 0 where
  pub accepted : c.accepted ≤ limit
  pub refused : c.refused ≤ limit
  pub committed : c.committed ≤ limit
  pub steals : c.steals ≤ limit
  pub dropped : c.dropped ≤ limit

-- the entries that an accepted call dropped, by how many there were before it
abbrev pub dropped_of : Call → ℕ → Core → ℕ
dropped_of (Decode guess) entries after = 0
dropped_of (Issue position) entries after = 0
dropped_of (Complete position) entries after = entries - after.count
dropped_of Commit entries after = choose (eqb after.halt.cause 0) 0 (entries - 1)

-- an accepted call, by how many entries there were before it and whether it stole a register
abbrev pub accepting_by : Call → ℕ → Bool → Core → Counts → Counts
accepting_by call entries stole after c =
    record {
      accepted = c.accepted + 1;
      refused = c.refused;
      committed = c.committed + commits call after;
      steals = c.steals + choose stole 1 0;
      dropped = c.dropped + dropped_of call entries after;
    }

-- a machine, the data and the counts, as code holds them
abbrev pub played_by : Core → List ℕ → Counts → Played
played_by core memory counts = record { world = record { core = core; memory = memory }; counts = counts }
