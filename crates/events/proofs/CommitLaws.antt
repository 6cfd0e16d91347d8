-- Commits that are counted, and the halting one, are the accepted commits: by how each call can end.
use Prim.Native.Nat.{ℕ, ◌+◌}
use mathlib.Core.Path.{◌≡◌, refl, sym, ap, subst, ◌∙◌}
use mathlib.Core.Bool.{Bool, true, false}
use mathlib.Core.List.{List, [], ◌∷◌}
use native.Mathlib.Omega.{arith}
use borrow.Author.Tests.{eq-eqb, ne_eqb}
use lib.Dec.{eqb}
use Rattle.isa.specs.Reads.{choose}
use Rattle.execution.specs.declared.Stop.{Stop}
use Rattle.tables.specs.Entry.{stopped_entry, completed_entry, held}
use Rattle.tables.specs.declared.Entry.{Entry}
use Rattle.renaming.specs.Changes.{entry_at, place}
use Rattle.renaming.specs.declared.Core.{Core}
use Rattle.stealing.specs.Steal.{robbed}
use Rattle.completing.specs.Complete.{outcome_at, learned}
use Rattle.committing.specs.Commit.{halted_by, retired}
use Rattle.formats.specs.declared.Record.{Record}
use Rattle.window.specs.Calls.{World, Made, made_by, is_commit, make}
use Rattle.window.specs.declared.Call.{Call}
use Rattle.window.specs.declared.Call.TheVariants.{Commit as commit}
use Rattle.agreement.specs.Lists.{own, accepted_commits, make_event}
use Rattle.agreement.proofs.Turns.{Turn, refused, enters, issues, ends, settles, takes, steals, retires, halts, turn}
use Rattle.agreement.proofs.Fits.{steady_issued}
use Rattle.agreement.proofs.Steady.{Steady, steady_both, steady_enter, steady_place, steady_learned, steady_robbed, steady_redirected, steady_retired, halted_halt}
use Rattle.events.specs.declared.Counts.{Counts}
use Rattle.events.specs.Counts.{call_by, commits, accepting, refusing, Played, played, played_all}
use Rattle.events.specs.Statement.{calls_of, halting_commit}

-- what a call adds to the commits counted, and what it leaves
module _ (w : World) (call : Call) where
  abbrev Counted : Core → ℕ → Type 0
  Counted after number =
      choose (eqb number 0) (commits call after) 0 + halting_commit after
      ≡ halting_commit w.core + choose (is_commit call) (choose (eqb number 0) 1 0) 0

  counted_made : (made : Made) (m : Core) (memory : List ℕ) (n : ℕ) → made ≡ made_by m memory n → Counted m n → Counted made.world.core made.number
  counted_made made m memory n e c = subst (λ (x : Made). Counted x.world.core x.number) (sym e) c

  none_either : (b : Bool) → choose {A = ℕ} b 0 0 ≡ 0
  none_either true = refl
  none_either false = refl

  counted_refused : (n : ℕ) → (n ≡ 0 → ⊥) → Counted w.core n
  counted_refused n h = rw (ne_eqb n 0 h, none_either (is_commit call)) (omega arith)

  -- a call other than commit leaves the halt as it was
  counted_quiet : (m : Core) → is_commit call ≡ false → Steady w.core m → Counted m 0
  counted_quiet m q s =
      let same : halting_commit m ≡ halting_commit w.core = ap (λ (x : Stop). choose {A = ℕ} (eqb x.cause 0) 0 1) s.halt in
      rw q (omega arith)

  counted_retires : call ≡ commit → w.core.halt.cause ≡ 0 → Counted (retired w.core) 0
  counted_retires q runs =
      let after : (retired w.core).halt.cause ≡ 0 = ap (λ (x : Stop). x.cause) (steady_retired w.core).halt ∙ runs in
      rw (q, eq-eqb w.core.halt.cause 0 runs, eq-eqb (retired w.core).halt.cause 0 after)

  counted_halts : (why : Stop) (m : Core) → call ≡ commit → w.core.halt.cause ≡ 0 → (why.cause ≡ 0 → ⊥) → Counted (halted_by why m) 0
  counted_halts why m q runs h =
      let after : (halted_by why m).halt.cause ≡ 0 → ⊥ = λ z. h (sym (ap (λ (x : Stop). x.cause) (halted_halt why m)) ∙ z) in
      rw (q, eq-eqb w.core.halt.cause 0 runs, ne_eqb (halted_by why m).halt.cause 0 after)

counted_turn : (program : List ℕ) (w : World) (call : Call) (made : Made) → Turn program w call made → Counted w call made.world.core made.number
counted_turn program w call made (refused n h e) = counted_made w call made _ _ _ e (counted_refused w call n h)
counted_turn program w call made (enters guess q runs room e) = counted_made w call made _ _ _ e (counted_quiet w call _ (ap is_commit q) (steady_enter _ w.core))
counted_turn program w call made (issues i q at left right alone e) = counted_made w call made _ _ _ e (counted_quiet w call _ (ap is_commit q) (steady_issued w.memory i w.core))
counted_turn program w call made (ends i q at cause e) =
    let stopped : Entry = stopped_entry (outcome_at w.core i).stop (entry_at w.core i) in
    counted_made w call made _ _ _ e (counted_quiet w call _ (ap is_commit q) (steady_place i stopped w.core))
counted_turn program w call made (settles i q goes none e) =
    counted_made w call made _ _ _ e
    (counted_quiet w call _ (ap is_commit q) (steady_both w.core (place i (completed_entry 0 (entry_at w.core i)) w.core) _ (steady_place i _ w.core) (steady_redirected i _ _)))
counted_turn program w call made (takes i q goes some free e) =
    let m : Core = w.core in
    let taught : Core = learned i m.free_registers.head (outcome_at m i).result m in
    counted_made w call made _ _ _ e (counted_quiet w call _ (ap is_commit q) (steady_both m taught _ (steady_learned i _ _ m) (steady_redirected i _ taught)))
counted_turn program w call made (steals i v q goes some none victim above there holds e) =
    let m : Core = w.core in
    let taught : Core = learned i (held m.physical (entry_at m v)) (outcome_at m i).result (robbed v m) in
    counted_made w call made _ _ _ e
    (counted_quiet w call _ (ap is_commit q)
    (steady_both m taught _ (steady_both m (robbed v m) taught (steady_robbed v m) (steady_learned i _ _ (robbed v m))) (steady_redirected i _ taught)))
counted_turn program w call made (retires q at calm e) = counted_made w call made _ _ _ e (counted_retires w call q at.runs)
counted_turn program w call made (halts q at cause e) = counted_made w call made _ _ _ e (counted_halts w call _ _ q at.runs cause)

-- one event
committed_is : (call : Call) (before after : Core) (c : Counts) (b : Bool)
    → (choose b (accepting call before after c) (refusing c)).committed ≡ c.committed + choose b (commits call after) 0
committed_is call before after c true = refl
committed_is call before after c false = omega arith

played_commits : (program : List ℕ) (r : Record) (p : Played)
    → let made : Made = make program (call_by r) p.world in
    (played program r p).counts.committed + halting_commit (played program r p).world.core
    ≡ p.counts.committed + halting_commit p.world.core + choose (is_commit (call_by r)) (choose (eqb made.number 0) 1 0) 0
unfolding played make_event
played_commits program r p =
    let made : Made = make program (call_by r) p.world in
    let one = committed_is (call_by r) p.world.core made.world.core p.counts (eqb made.number 0) in
    let turned : Counted p.world (call_by r) made.world.core made.number = counted_turn program p.world (call_by r) made (turn program (own (call_by r)) p.world) in
    omega arith

-- all events
pub all_commits : (program : List ℕ) (events : List Record) (p : Played)
    → (played_all program events p).counts.committed + halting_commit (played_all program events p).world.core
    ≡ p.counts.committed + halting_commit p.world.core + accepted_commits program (calls_of events) p.world
unfolding played_all accepted_commits played make_event
all_commits program [] p = omega arith
all_commits program (r ∷ events) p =
    let one = played_commits program r p in
    let rest = all_commits program events (played program r p) in
    omega arith
