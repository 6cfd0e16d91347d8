-- The statement on the counts.
use Prim.Native.Nat.{ℕ, suc, ◌+◌, ◌≤◌}
use mathlib.Core.Path.{◌≡◌, refl}
use mathlib.Core.Bool.{Bool, true, false, ◌&&◌}
use mathlib.Core.List.{List, [], ◌∷◌}
use native.Mathlib.Omega.{arith}
use borrow.Author.Tests.{eq-eqb}
use lib.Dec.{eqb}
use lib.ListN.{length}
use Rattle.isa.specs.Reads.{choose}
use Rattle.formats.specs.declared.Record.{Record}
use Rattle.renaming.specs.declared.Core.{Core}
use Rattle.window.specs.Calls.{Made, is_commit, make}
use Rattle.window.specs.declared.Call.{Call}
use Rattle.agreement.specs.Lists.{make_all, make_event}
use Rattle.events.specs.declared.Counts.{Counts}
use Rattle.events.specs.Counts.{call_by, accepting, refusing, Played, played, played_all}
use Rattle.events.specs.Statement.{calls_of, halting_commit, counted_from, Statement}
use Rattle.events.proofs.CommitLaws.{all_commits}

pub one_most : (b : Bool) → choose b 1 0 ≤ 1
one_most true = omega arith
one_most false = omega arith

module _ (call : Call) (before after : Core) (c : Counts) where
  abbrev next : Bool → Counts
  next b = choose b (accepting call before after c) (refusing c)

  one_more : (b : Bool) → (next b).accepted + (next b).refused ≡ suc (c.accepted + c.refused)
  one_more true = omega arith
  one_more false = omega arith

  no_more : (b : Bool) → c.committed ≤ c.accepted → (next b).committed ≤ (next b).accepted
  no_more true l = let k = one_most (is_commit call && eqb after.halt.cause 0) in omega arith
  no_more false l = l

-- one event
module _ (program : List ℕ) (r : Record) (p : Played) where
  abbrev made : Made
  made = make program (call_by r) p.world

  played_counted : (played program r p).counts.accepted + (played program r p).counts.refused ≡ suc (p.counts.accepted + p.counts.refused)
  unfolding played
  played_counted = one_more (call_by r) p.world.core made.world.core p.counts (eqb made.number 0)

  played_committed : p.counts.committed ≤ p.counts.accepted → (played program r p).counts.committed ≤ (played program r p).counts.accepted
  unfolding played
  played_committed l = no_more (call_by r) p.world.core made.world.core p.counts (eqb made.number 0) l

all_counted : (program : List ℕ) (events : List Record) (p : Played)
    → (played_all program events p).counts.accepted + (played_all program events p).counts.refused ≡ p.counts.accepted + p.counts.refused + length events
unfolding played_all
all_counted program [] p = omega arith
all_counted program (r ∷ events) p =
    let one = played_counted program r p in
    let rest = all_counted program events (played program r p) in
    omega arith

all_committed : (program : List ℕ) (events : List Record) (p : Played) → p.counts.committed ≤ p.counts.accepted
    → (played_all program events p).counts.committed ≤ (played_all program events p).counts.accepted
unfolding played_all
all_committed program [] p l = l
all_committed program (r ∷ events) p l = all_committed program events (played program r p) (played_committed program r p l)

all_world : (program : List ℕ) (events : List Record) (p : Played) → (played_all program events p).world ≡ make_all program (calls_of events) p.world
unfolding played_all make_all played make_event
all_world program [] p = refl
all_world program (r ∷ events) p = all_world program events (played program r p)

pub statement : Statement
statement =
    record {
      counted = λ program events w. let all = all_counted program events (counted_from w) in omega arith;
      committed = λ program events w. all_committed program events (counted_from w) (omega arith);
      commits = λ program events w runs.
          let all = all_commits program events (counted_from w) in
          let start : halting_commit w.core ≡ 0 = rw (eq-eqb w.core.halt.cause 0 runs) in
          omega arith;
      world = λ program events w. all_world program events (counted_from w);
    }
