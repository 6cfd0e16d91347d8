-- What tests say of the facts that they stand for.
use mathlib.Core.Path.{◌≡◌, refl}
use mathlib.Core.Bool.{Bool, true, false, not, ◌&&◌, ◌||◌}
use mathlib.Core.Logic.{◌⊎◌, inl, inr}
use Prim.Native.Nat.{ℕ}
use native.Mathlib.Omega.{arith}
use lib.Dec.{T}

-- false is not true
pub impossible : {A : Type 0} → ◌≡◌ {A = Bool} false true → A
impossible e = let z : ◌≡◌ {A = ℕ} 0 1 = cc in absurd (omega arith)

pub and_left : (a b : Bool) → a && b ≡ true → a ≡ true
and_left true b e = refl
and_left false b e = e

pub and_right : (a b : Bool) → a && b ≡ true → b ≡ true
and_right true b e = e
and_right false b e = impossible e

pub both : {a b : Bool} → a ≡ true → b ≡ true → a && b ≡ true
both {a} {b} p q = rw (p, q)

pub either : (a b : Bool) → a || b ≡ true → (a ≡ true) ⊎ (b ≡ true)
either true b e = inl refl
either false b e = inr e

-- a test that holds wherever two others do
pub where_both : (a b c : Bool) → (a ≡ true → b ≡ true → c ≡ true) → not (a && b) || c ≡ true
where_both true true c h = h refl refl
where_both true false c h = refl
where_both false b c h = refl

-- a test that holds wherever another does
pub implied : (a b : Bool) → a ≡ true → not a || b ≡ true → b ≡ true
implied true b h e = e
implied false b h e = impossible h

pub holds : (b : Bool) → b ≡ true → T b
holds true e = tt
holds false e = impossible e

pub true_of : (b : Bool) → T b → b ≡ true
true_of true t = refl
true_of false t = absurd t
