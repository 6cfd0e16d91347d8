-- What a match on a number knows in its last arm, where the arms before it are 0, 1, 2 and so on.
use mathlib.Core.Path.{◌≡◌}
use Prim.Native.Nat.{ℕ, zero, suc, ◌≤◌}
use native.Mathlib.Omega.{arith}

-- x is none of the numbers below n
abbrev pub Passed : ℕ → ℕ → Type 0
Passed zero x = Unit {0}
Passed (suc n) x = Passed n x × (x ≡ n → ⊥)

pub passed : (n x : ℕ) → Passed n x → n ≤ x
passed zero x p = omega arith
passed (suc n) x p = let h = passed n x p.0 in omega (arith, p.1)
