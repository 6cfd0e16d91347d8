-- "Drain makes the calls that commit position 0 until no entry is left or the machine halts, and counts accepted calls."
use Rattle.std.specs.Prelude.{ℕ, zero, suc, ◌*◌, Bool, ◌||◌, List, eqb}
use Rattle.isa.specs.Reads.{choose}
use Rattle.renaming.specs.Call.{halted, lent_refusal}
use Rattle.renaming.specs.declared.Core.{Core}
use Rattle.window.specs.Calls.{World, Made, make, needed_of}

-- the core and the data, how many calls were accepted, and 0 or the refusal that ended it
pub record Drain : Type 0 where
  pub world : World
  pub calls : ℕ
  pub number : ℕ

abbrev pub idle : Core → Bool
idle m = eqb m.count 0 || halted m

abbrev pub drain_ends : World → ℕ → ℕ → Drain
drain_ends w calls number = record { world = w; calls = calls; number = number }

-- at most so many calls more, after some
unfoldable pub drain_from : ℕ → List ℕ → World → ℕ → Drain
drain_from zero program w calls = drain_ends w calls 0
drain_from (suc n) program w calls =
    choose (idle w.core) (drain_ends w calls 0)
    (let made : Made = make program (needed_of w.core) w in
    choose (eqb made.number 0) (drain_from n program made.world (suc calls)) (drain_ends made.world calls made.number))

-- "It refuses by 5 and 6 at its start, with count 0"; "at most 3 × the entries at the start"
unfoldable pub drain_of : List ℕ → World → Drain
drain_of program w =
    let lent : ℕ = lent_refusal w.core program w.memory in
    choose (eqb lent 0) (drain_from (3 * w.core.count) program w 0) (drain_ends w 0 lent)
