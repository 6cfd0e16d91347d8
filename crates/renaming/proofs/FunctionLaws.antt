-- An array made by a closure that keeps what it captured.
use Prim.Native.Nat.{ℕ, zero, suc, ◌+◌, ◌<◌}
use mathlib.Core.Path.{◌≡◌, subst, ◌∙◌}
use mathlib.Core.List.{List}
use native.Mathlib.Omega.{arith}
use lib.ListN.{get_or}
use denote.Param.Members.{Mut, Called}
use Rattle.std.specs.Array.{IsFromFnResultFrom, IsFromFnResult}

module _ {F B : Type 0} (g : Mut F (ℕ × Unit {0}) B) (f : F) (h : ℕ → B) (kept : (i : ℕ) (y : B) (q : F) → Called g f (i, tt) y q → (q ≡ f) × (y ≡ h i)) where
  made_from : (n i j : ℕ) (ys : List B) (d : B) → IsFromFnResultFrom g f ys i n → j < n → get_or ys (i + j) d ≡ h (i + j)
  made_from zero i j ys d made below = absurd (omega arith)
  made_from (suc n) i zero ys d made below =
      let e : i + zero ≡ i = omega arith in
      rw e (made.2.1 d ∙ (kept i made.1 made.0 made.3).1)
  made_from (suc n) i (suc j) ys d made below =
      let rest = subst (λ (q : F). IsFromFnResultFrom g q ys (i + 1) n) (kept i made.1 made.0 made.3).0 made.4 in
      let e : i + suc j ≡ i + 1 + j = omega arith in
      rw e (made_from n (i + 1) j ys d rest (omega arith))

  pub made_at : (n i : ℕ) (ys : List B) (d : B) → IsFromFnResult g f ys n → i < n → get_or ys i d ≡ h i
  made_at n i ys d made below =
      let e : 0 + i ≡ i = omega arith in
      subst (λ (k : ℕ). get_or ys k d ≡ h k) e (made_from n 0 i ys d made.each below)
