-- Set-up's numbers never change, and the halt changes only where the machine halts.
use Prim.Native.Nat.{ℕ, zero, suc, ◌-◌}
use mathlib.Core.Path.{◌≡◌, refl, ◌∙◌}
use mathlib.Core.Bool.{Bool, true, false}
use lib.Dec.{eqb}
use Rattle.isa.specs.Reads.{choose}
use Rattle.execution.specs.declared.Stop.{Stop}
use Rattle.tables.specs.declared.Entry.{Entry}
use Rattle.renaming.specs.Changes.{entry_at, place}
use Rattle.decoding.specs.Decode.{enter}
use Rattle.renaming.specs.Drop.{drop_youngest, drop_many, drop_to}
use Rattle.completing.specs.Complete.{learned, refetched, redirected}
use Rattle.stealing.specs.Steal.{robbed}
use Rattle.committing.specs.Commit.{halted_by, retired}
use Rattle.renaming.specs.declared.Core.{Core}

pub record Steady (a b : Core) : Type 0 where
  pub setup : b.setup ≡ a.setup
  pub halt : b.halt ≡ a.halt

pub steady_both : (a b c : Core) → Steady a b → Steady b c → Steady a c
steady_both a b c s t = record { setup = t.setup ∙ s.setup; halt = t.halt ∙ s.halt }

pub steady_enter : (e : Entry) (m : Core) → Steady m (enter e m)
unfolding enter
steady_enter e m = record { setup = refl; halt = refl }

pub steady_place : (i : ℕ) (e : Entry) (m : Core) → Steady m (place i e m)
steady_place i e m = record { setup = refl; halt = refl }

pub steady_learned : (i register result : ℕ) (m : Core) → Steady m (learned i register result m)
unfolding learned
steady_learned i register result m = record { setup = refl; halt = refl }

pub steady_robbed : (v : ℕ) (m : Core) → Steady m (robbed v m)
unfolding robbed
steady_robbed v m = record { setup = refl; halt = refl }

pub steady_drop : (m : Core) → Steady m (drop_youngest m)
unfolding drop_youngest
steady_drop m = record { setup = refl; halt = refl }

pub steady_drops : (n : ℕ) (m : Core) → Steady m (drop_many n m)
unfolding drop_many
steady_drops zero m = record { setup = refl; halt = refl }
steady_drops (suc n) m = steady_both m (drop_youngest m) (drop_many n (drop_youngest m)) (steady_drop m) (steady_drops n (drop_youngest m))

pub steady_refetched : (i next : ℕ) (m : Core) → Steady m (refetched i next m)
unfolding refetched
steady_refetched i next m = record { setup = refl; halt = refl }

pub steady_redirected : (i next : ℕ) (m : Core) → Steady m (redirected i next m)
unfolding redirected
steady_redirected i next m = at (eqb next (entry_at m i).predicted)
  where
    at : (b : Bool) → Steady m (choose b m (refetched i next (drop_to (suc i) m)))
    at true = record { setup = refl; halt = refl }
    at false = steady_both m (drop_to (suc i) m) (refetched i next (drop_to (suc i) m)) (steady_drops (m.count - suc i) m) (steady_refetched i next (drop_to (suc i) m))

pub steady_retired : (m : Core) → Steady m (retired m)
unfolding retired
steady_retired m = record { setup = refl; halt = refl }

pub halted_setup : (why : Stop) (m : Core) → (halted_by why m).setup ≡ m.setup
unfolding halted_by
halted_setup why m = refl

pub halted_halt : (why : Stop) (m : Core) → (halted_by why m).halt ≡ why
unfolding halted_by
halted_halt why m = refl
