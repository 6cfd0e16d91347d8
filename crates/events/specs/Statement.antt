-- What the counts mean, and whose machine and data they come with.
use Rattle.std.specs.Prelude.{ℕ, ◌+◌, ◌≤◌, ◌≡◌, List, map, eqb, length}
use Rattle.isa.specs.Reads.{choose}
use Rattle.formats.specs.declared.Record.{Record}
use Rattle.renaming.specs.declared.Core.{Core}
use Rattle.window.specs.Calls.{World}
use Rattle.agreement.specs.Lists.{Event, own, make_all, accepted_commits}
use Rattle.events.specs.Counts.{call_by, Played, played_all, no_counts}

-- the list of calls that demand 3 speaks of
abbrev pub calls_of : List Record → List Event
calls_of events = map (λ (r : Record). own (call_by r)) events

-- the commit with which a machine halted
abbrev pub halting_commit : Core → ℕ
halting_commit m = choose (eqb m.halt.cause 0) 0 1

abbrev pub counted_from : World → Played
counted_from w = record { world = w; counts = no_counts }

pub record Statement : Type 0 where
  -- every event is accepted or refused, and counted once
  pub counted : (program : List ℕ) (events : List Record) (w : World) → let p : Played = played_all program events (counted_from w) in p.counts.accepted + p.counts.refused ≡ length events
  -- a commit that is counted was accepted
  pub committed : (program : List ℕ) (events : List Record) (w : World) → let p : Played = played_all program events (counted_from w) in p.counts.committed ≤ p.counts.accepted
  -- with the halting one, if there is one, the commits that are counted are the accepted commits of that list
  pub commits : (program : List ℕ) (events : List Record) (w : World) → w.core.halt.cause ≡ 0
      → let p : Played = played_all program events (counted_from w) in
      p.counts.committed + halting_commit p.world.core ≡ accepted_commits program (calls_of events) w
  -- machine and data are those of the list of calls
  pub world : (program : List ℕ) (events : List Record) (w : World) → (played_all program events (counted_from w)).world ≡ make_all program (calls_of events) w
