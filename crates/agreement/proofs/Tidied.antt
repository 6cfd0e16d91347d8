-- The accounting makes a machine tidy: a write at index 0 changes nothing.
use Prim.Native.Nat.{ℕ, ◌<◌}
use mathlib.Core.Path.{◌≡◌, refl, sym, ap, ◌∙◌}
use mathlib.Core.Logic.{◌≢◌}
use mathlib.Core.List.{List}
use lib.ListN.{length, get_or, take}
use Rattle.tables.specs.Table.{look_up}
use Rattle.tables.specs.Entry.{empty_entry, held_in, held}
use Rattle.tables.specs.declared.State.{State as Stage}
use Rattle.tables.specs.declared.State.TheVariants.{Waits, Issued, Completed}
use Rattle.tables.specs.declared.Entry.{Entry}
use Rattle.agreement.proofs.View.{View}
use Rattle.agreement.proofs.Ghost.{Ghost}
use Rattle.agreement.proofs.Chains.{renaming_of, Renamed}
use Rattle.agreement.proofs.Contents.{holding, without, stopped, early, HoldsIn}
use Rattle.agreement.proofs.Invariant.{Accounting}
use Rattle.agreement.proofs.Walks.{names_at, renamed_at, renamed_take, zero_last}
use Rattle.agreement.proofs.Entering.{zero_named}
use Rattle.agreement.proofs.Victims.{held_completed}
use Rattle.agreement.proofs.Tidy.{Plain, Tidy}

-- what an entry holds stands under its name
held_early : (s : Stage) (physical : List ℕ) (name : ℕ) → s ≢ Completed → get_or physical name 0 ≡ 0 → held_in s (look_up physical name) ≡ get_or physical name 0
held_early Waits physical name e h = sym h
held_early Issued physical name e h = sym h
held_early Completed physical name e h = absurd (e refl)

pub held_is : (physical : List ℕ) (e : Entry) → get_or physical 0 0 ≡ 0 → HoldsIn physical e → held physical e ≡ get_or physical e.name 0
held_is physical e z (holding a b c d) = held_completed physical e z a
held_is physical e z (without a b c) = held_completed physical e z a
held_is physical e z (stopped a b c) = held_completed physical e z a
held_is physical e z (early a b) = held_early e.state physical e.name a b

module _ (g : Ghost) (m : List ℕ) (c : View) (accounting : Accounting g m c) where
  zero_register_lem : get_or c.physical 0 0 ≡ 0
  zero_register_lem = accounting.contents.valued.zero_register

  pub accounted_renamed : (i : ℕ) → i < length c.entries → Renamed g (names_at m c.entries i) (renaming_of (get_or c.entries i empty_entry))
  accounted_renamed i h = renamed_at g m c.entries i h accounting.renamed

  pub accounted_holds : (i : ℕ) → i < length c.entries → HoldsIn c.physical (get_or c.entries i empty_entry)
  accounted_holds i h = accounting.contents.holds i empty_entry h

  zero_at : (i : ℕ) → get_or (names_at m c.entries i) 0 0 ≡ 0
  zero_at i = zero_last g m (take i c.entries) accounting.name_pool.zero_name (renamed_take g m c.entries i accounting.renamed)

  pub accounted_plain : (i : ℕ) → i < length c.entries → Plain c.physical (get_or c.entries i empty_entry)
  accounted_plain i h =
      record {
        nameless = (accounted_renamed i h).unnamed;
        baseless = λ d. (accounted_renamed i h).previous ∙ ap (λ (x : ℕ). get_or (names_at m c.entries i) x 0) d ∙ zero_at i;
        holds = held_is c.physical (get_or c.entries i empty_entry) zero_register_lem (accounted_holds i h);
      }

  pub accounted_tidy : Tidy c
  accounted_tidy =
      record {
        physical = zero_register_lem;
        names = zero_named g m c accounting;
        registers = accounting.general.gives 0 ∙ ap (λ (x : ℕ). get_or c.physical x 0) (zero_named g m c accounting) ∙ zero_register_lem;
        register_link = accounting.register_pool.zero_link;
        name_link = accounting.name_pool.zero_link;
        entries = accounted_plain;
      }
