-- Drain "makes the calls that commit position 0 until no entry is left or the machine halts, and counts accepted calls".
use Rattle.std.specs.Prelude.{ℕ, zero, suc, ◌*◌, ◌≤◌, ◌≡◌, ◌≢◌, true, List}
use Rattle.ranges.specs.declared.Setup.{Setup}
use Rattle.renaming.specs.Call.{lent_refusal}
use Rattle.window.specs.Calls.{World, Made, make, needed_of}
use Rattle.window.specs.Drain.{Drain, idle, drain_ends, drain_of}
use Rattle.agreement.specs.Lists.{Event, make_all, Accepted, started}

-- so many calls that position 0 needs, all accepted, lead from one world to another
unfoldable pub Leads : ℕ → List ℕ → World → World → Type 0
Leads zero program w v = w ≡ v
Leads (suc n) program w v =
    let made : Made = make program (needed_of w.core) w in
    (made.number ≡ 0) × Leads n program made.world v

pub record Drained : Type 0 where
  -- "makes the calls that commit position 0 …, and counts accepted calls"; "At a refused call it ends …, keeping what earlier calls did"
  pub made : (program : List ℕ) (w : World) → let d : Drain = drain_of program w in Leads d.calls program w d.world
  -- "At a refused call it ends with that number": the one that the next call meets on what it hands back
  pub number : (program : List ℕ) (w : World)
      → let d : Drain = drain_of program w in d.number ≢ 0 → (make program (needed_of d.world.core) d.world).number ≡ d.number
  -- "It refuses by 5 and 6 at its start, with count 0"
  pub refuses : (program : List ℕ) (w : World) → let lent : ℕ = lent_refusal w.core program w.memory in lent ≢ 0 → drain_of program w ≡ drain_ends w 0 lent
  -- "on a halted or empty machine it makes no call"
  pub rests : (program : List ℕ) (w : World) → lent_refusal w.core program w.memory ≡ 0 → idle w.core ≡ true → drain_of program w ≡ drain_ends w 0 0
  -- "at most 3 × the entries at the start", on every machine
  pub calls : (program : List ℕ) (w : World) → (drain_of program w).calls ≤ 3 * w.core.count
  -- "until no entry is left or the machine halts": it ends there on every machine on which no call is refused
  pub ends : (program : List ℕ) (w : World) → (drain_of program w).number ≡ 0 → idle (drain_of program w).world.core ≡ true
  -- "At a refused call it ends with that number …; on a machine reached from a fresh one this never occurs."
  pub unrefused : (s : Setup) (program memory : List ℕ) → Accepted s program memory → (events : List Event)
      → let start : World = started s memory in
      (drain_of program (make_all program events start)).number ≡ 0
