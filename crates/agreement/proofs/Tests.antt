-- The test of two numbers, as a view to match on.
use Prim.Native.Nat.{ℕ}
use mathlib.Core.Path.{◌≡◌, refl}
use mathlib.Core.Logic.{◌≢◌}
use mathlib.Core.Bool.{Bool, true, false}
use native.Mathlib.Omega.{arith}
use borrow.Author.Tests.{eqb-true, eqb-false}
use lib.Dec.{eqb}

pub data Eq? (a b : ℕ) : Type 0 where
  equal : a ≡ b → eqb a b ≡ true → Eq? a b
  apart : a ≢ b → eqb a b ≡ false → Eq? a b

pub eq? : (a b : ℕ) → Eq? a b
eq? a b = cases (eqb a b) refl
  where
    cases : (t : Bool) → eqb a b ≡ t → Eq? a b
    cases true e = equal (eqb-true a b e) e
    cases false e = apart (eqb-false a b e) e

pub impossible : {A : Type 0} → ◌≡◌ {A = ℕ} 0 1 → A
impossible e = absurd (omega arith)
