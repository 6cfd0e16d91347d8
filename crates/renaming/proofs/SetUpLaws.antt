-- Set-up's refusals in order.
use Prim.Native.Nat.{ℕ}
use mathlib.Core.Path.{◌≡◌, sym, ◌∙◌}
use borrow.Author.Tests.{eq-eqb, ne_eqb}
use Rattle.renaming.specs.Core.{zero_machine}
use Rattle.renaming.specs.SetUp.{fresh_machine, set_up_of}
use Rattle.ranges.specs.Sizes.{set_up_refusal}
use Rattle.ranges.specs.declared.Setup.{Setup}

module _ (s : Setup) (number : ℕ) (e : number ≡ set_up_refusal s) where
  pub answer_refused : (number ≡ 0 → ⊥) → record { core = zero_machine; number = number } ≡ set_up_of s
  unfolding set_up_of
  answer_refused h = rw (e, ne_eqb (set_up_refusal s) 0 (λ z. h (e ∙ z)))

  pub answer_fresh : number ≡ 0 → record { core = fresh_machine s; number = 0 } ≡ set_up_of s
  unfolding set_up_of
  answer_fresh h = rw (eq-eqb (set_up_refusal s) 0 (sym e ∙ h))
