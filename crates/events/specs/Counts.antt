-- What the events of a schedule count.
use Rattle.std.specs.Prelude.{ℕ, ◌+◌, ◌&&◌, List, [], ◌∷◌, eqb}
use Rattle.isa.specs.Reads.{choose}
use Rattle.formats.specs.Kind.{decode_kind, issue_kind, complete_kind}
use Rattle.formats.specs.declared.Record.{Record}
use Rattle.renaming.specs.declared.Core.{Core}
use Rattle.window.specs.Calls.{World, Made, make, is_commit, stolen, dropped}
use Rattle.window.specs.declared.Call.{Call}
use Rattle.window.specs.declared.Call.TheVariants.{Decode as decode, Issue as issue, Complete as complete, Commit as commit}
use Rattle.events.specs.declared.Counts.{Counts}

-- "Kinds: 1 decode, 2 issue, 3 complete, 4 commit."
unfoldable pub call_by : Record → Call
call_by r = choose (eqb r.kind decode_kind) (decode r.guess) (choose (eqb r.kind issue_kind) (issue r.position) (choose (eqb r.kind complete_kind) (complete r.position) commit))

-- "Committed counts commits without a halt"
abbrev pub commits : Call → Core → ℕ
commits call after = choose (is_commit call && eqb after.halt.cause 0) 1 0

-- an accepted call
abbrev pub accepting : Call → Core → Core → Counts → Counts
accepting call before after c =
    record {
      accepted = c.accepted + 1;
      refused = c.refused;
      committed = c.committed + commits call after;
      steals = c.steals + stolen call before;
      dropped = c.dropped + dropped call before after;
    }

abbrev pub refusing : Counts → Counts
refusing c =
    record {
      accepted = c.accepted;
      refused = c.refused + 1;
      committed = c.committed;
      steals = c.steals;
      dropped = c.dropped;
    }

-- a machine, the data and the counts, as the events so far left them
pub record Played : Type 0 where
  pub world : World
  pub counts : Counts

-- one event
unfoldable pub played : List ℕ → Record → Played → Played
played program r p =
    let made : Made = make program (call_by r) p.world in
    record {
      world = made.world;
      counts = choose (eqb made.number 0) (accepting (call_by r) p.world.core made.world.core p.counts) (refusing p.counts);
    }

-- "Replay makes every event, counting refused ones."
unfoldable pub played_all : List ℕ → List Record → Played → Played
played_all program [] p = p
played_all program (r ∷ events) p = played_all program events (played program r p)

abbrev pub no_counts : Counts
no_counts = record { accepted = 0; refused = 0; committed = 0; steals = 0; dropped = 0 }
