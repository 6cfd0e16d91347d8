-- Which refusal a completion meets, condition by condition.
use Prim.Native.Nat.{ℕ}
use mathlib.Core.Path.{◌≡◌}
use mathlib.Core.Bool.{true, false, ◌&&◌}
use Rattle.reference.specs.Step.{first}
use Rattle.tables.specs.Entry.{is_issued}
use Rattle.renaming.specs.declared.Core.{Core}
use Rattle.renaming.specs.Call.{halted, no_entry}
use Rattle.renaming.specs.Changes.{entry_at}
use Rattle.completing.specs.Complete.{needs_register, none_free, complete_refusal}
use Rattle.stealing.specs.Steal.{no_victim}

module _ (position : ℕ) (m : Core) where
  pub refused_halted : halted m ≡ true → 10 ≡ complete_refusal position m
  unfolding complete_refusal first
  refused_halted h = rw h

  module _ (h : halted m ≡ false) where
    pub refused_place : no_entry m position ≡ true → 12 ≡ complete_refusal position m
    unfolding complete_refusal first
    refused_place n = rw (h, n)

    module _ (n : no_entry m position ≡ false) where
      pub refused_state : is_issued (entry_at m position).state ≡ false → 13 ≡ complete_refusal position m
      unfolding complete_refusal first
      refused_state s = rw (h, n, s)

      module _ (s : is_issued (entry_at m position).state ≡ true) where
        pub refused_register : needs_register m position && none_free m ≡ true → no_victim m position ≡ true → 16 ≡ complete_refusal position m
        unfolding complete_refusal first
        refused_register r v = rw (h, n, s, r, v)

        pub has_victim : needs_register m position && none_free m ≡ true → no_victim m position ≡ false → 0 ≡ complete_refusal position m
        unfolding complete_refusal first
        has_victim r v = rw (h, n, s, r, v)

        pub supplied : needs_register m position && none_free m ≡ false → 0 ≡ complete_refusal position m
        unfolding complete_refusal first
        supplied r = rw (h, n, s, r)
