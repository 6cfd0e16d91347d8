-- Commit on the machine: one in-order step, or the halt.
use Prim.Native.Nat.{ℕ, ◌-◌, ◌<◌}
use mathlib.Core.Path.{◌≡◌, sym, ap, subst, ◌∙◌}
use mathlib.Core.Logic.{◌≢◌}
use mathlib.Core.List.{List}
use native.Mathlib.Omega.{arith}
use lib.ListN.{length, get_or}
use Rattle.execution.specs.Memory.{stored}
use Rattle.reference.specs.Step.{State, step_of}
use Rattle.execution.specs.declared.Stop.{Stop}
use Rattle.tables.specs.Entry.{empty_entry}
use Rattle.tables.specs.declared.State.TheVariants.{Completed}
use Rattle.tables.specs.declared.Entry.{Entry}
use Rattle.renaming.specs.Changes.{entry_at}
use Rattle.renaming.specs.Drop.{drop_to}
use Rattle.committing.specs.Commit.{halted_by, retired}
use Rattle.renaming.specs.declared.Core.{Core}
use Rattle.agreement.proofs.View.{View, view_of, drops_to}
use Rattle.agreement.proofs.Invariant.{Invariant, Emptied}
use Rattle.agreement.proofs.Commit.{halt_stops, retire_steps, retire_stores, retire_keeps, drops_emptied, halt_emptied}
use Rattle.agreement.proofs.Kept.{Kept}
use Rattle.agreement.proofs.Tidy.{Tidy}
use Rattle.agreement.proofs.Tidied.{accounted_tidy}
use Rattle.agreement.proofs.Views.{seen_length, seen_entry, view_halted, view_drop_to, view_retired}

module _ (program : List ℕ) (s : State) (m : Core) (k : Kept m) (invariant : Invariant program s (view_of m)) where
  abbrev c : View
  c = view_of m

  tidy : Tidy c
  tidy = accounted_tidy invariant.ghost invariant.committed c invariant.accounting

  -- all entries are dropped
  pub dropped_emptied : Emptied s (view_of (drop_to 0 m))
  dropped_emptied =
      let l = seen_length m k in
      let n : m.count - 0 ≡ length c.entries = omega arith in
      subst (Emptied s) (sym (view_drop_to 0 m k tidy (omega arith) ∙ ap (λ (x : ℕ). drops_to 0 x c) n)) (drops_emptied program s c invariant)

  pub halted_emptied : (why : Stop) → Emptied s (view_of (halted_by why (drop_to 0 m)))
  halted_emptied why = subst (Emptied s) (sym (view_halted why (drop_to 0 m))) (halt_emptied s (view_of (drop_to 0 m)) (drop_to 0 m).fetch why dropped_emptied)

  module _ (some : 0 < m.count) (now : (entry_at m 0).state ≡ Completed) where
    q : get_or c.entries 0 empty_entry ≡ entry_at m 0
    q = seen_entry m 0 some

    inside : 0 < length c.entries
    inside = let l = seen_length m k in omega arith

    now_seen : (get_or c.entries 0 empty_entry).state ≡ Completed
    now_seen = ap (λ (e : Entry). e.state) q ∙ now

    cause : (get_or c.entries 0 empty_entry).stop.cause ≡ (entry_at m 0).stop.cause
    cause = ap (λ (e : Entry). e.stop.cause) q

    pub halt_core_stops : (entry_at m 0).stop.cause ≢ 0 → (step_of program s).stop ≡ (entry_at m 0).stop
    halt_core_stops z = halt_stops program s c invariant inside now_seen (λ e. z (sym cause ∙ e)) ∙ ap (λ (e : Entry). e.stop) q

    module _ (clean : (entry_at m 0).stop.cause ≡ 0) where
      pub retire_core_steps : (step_of program s).stop.cause ≡ 0
      retire_core_steps = retire_steps program s c invariant inside now_seen (cause ∙ clean)

      pub retire_core_stores : stored (entry_at m 0).instruction (entry_at m 0).first (entry_at m 0).second s.memory ≡ (step_of program s).state.memory
      retire_core_stores = sym (retire_stores program s c invariant inside now_seen (cause ∙ clean) ∙ ap (λ (e : Entry). stored e.instruction e.first e.second s.memory) q)

      pub retire_core_keeps : Invariant program (step_of program s).state (view_of (retired m))
      retire_core_keeps =
          subst (Invariant program (step_of program s).state) (sym (view_retired m k some tidy.physical)) (retire_keeps program s c invariant inside now_seen (cause ∙ clean))
