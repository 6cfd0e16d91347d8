-- Which refusal an issue meets, condition by condition.
use Prim.Native.Nat.{ℕ}
use mathlib.Core.Path.{◌≡◌}
use mathlib.Core.Bool.{true, false, ◌&&◌}
use Rattle.reference.specs.Step.{first}
use Rattle.execution.specs.Roles.{loads}
use Rattle.tables.specs.Operand.{is_ready}
use Rattle.tables.specs.Entry.{is_waiting}
use Rattle.tables.specs.declared.Entry.{Entry}
use Rattle.renaming.specs.declared.Core.{Core}
use Rattle.renaming.specs.Call.{halted, no_entry}
use Rattle.renaming.specs.Changes.{entry_at}
use Rattle.issuing.specs.Issue.{store_below, issue_refusal}

module _ (position : ℕ) (m : Core) where
  abbrev e : Entry
  e = entry_at m position

  pub refused_halted : halted m ≡ true → 10 ≡ issue_refusal position m
  unfolding issue_refusal first
  refused_halted h = rw h

  module _ (h : halted m ≡ false) where
    pub refused_place : no_entry m position ≡ true → 12 ≡ issue_refusal position m
    unfolding issue_refusal first
    refused_place n = rw (h, n)

    module _ (n : no_entry m position ≡ false) where
      pub refused_state : is_waiting e.state ≡ false → 13 ≡ issue_refusal position m
      unfolding issue_refusal first
      refused_state s = rw (h, n, s)

      module _ (s : is_waiting e.state ≡ true) where
        pub refused_operand : is_ready e.left && is_ready e.right ≡ false → 14 ≡ issue_refusal position m
        unfolding issue_refusal first
        refused_operand r = rw (h, n, s, r)

        module _ (r : is_ready e.left && is_ready e.right ≡ true) where
          pub refused_store : loads e.instruction ≡ true → store_below position m.entries ≡ true → 15 ≡ issue_refusal position m
          unfolding issue_refusal first
          refused_store l b = rw (h, n, s, r, l, b)

          pub no_load : loads e.instruction ≡ false → 0 ≡ issue_refusal position m
          unfolding issue_refusal first
          no_load l = rw (h, n, s, r, l)

          pub no_store : loads e.instruction ≡ true → store_below position m.entries ≡ false → 0 ≡ issue_refusal position m
          unfolding issue_refusal first
          no_store l b = rw (h, n, s, r, l, b)
