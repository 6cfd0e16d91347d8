-- Drain, call by call.
use Prim.Native.Nat.{ℕ, suc, ◌+◌, ◌-◌, ◌*◌, ◌≤◌, ◌<◌}
use mathlib.Core.Path.{◌≡◌, ◌∙◌}
use mathlib.Core.Bool.{true, false}
use mathlib.Core.List.{List}
use native.Mathlib.Omega.{arith}
use native.Mathlib.Numerals.{add-one}
use borrow.Author.Tests.{eq-eqb, ne_eqb}
use Rattle.renaming.specs.Call.{lent_refusal}
use Rattle.window.specs.Calls.{World, Made, make, needed_of}
use Rattle.window.specs.Drain.{drain_ends, idle, drain_from, drain_of}

-- one call of at most budget, after some
module _ (budget calls : ℕ) (program : List ℕ) (w : World) where
  pub drain_over : budget ≤ calls → drain_from (budget - calls) program w calls ≡ drain_ends w calls 0
  unfolding drain_from
  drain_over h = let n : budget - calls ≡ 0 = omega arith in rw n

  module _ (h : calls < budget) where
    left : budget - calls ≡ suc (budget - (calls + 1))
    left = omega arith

    pub drain_idle : idle w.core ≡ true → drain_from (budget - calls) program w calls ≡ drain_ends w calls 0
    unfolding drain_from
    drain_idle i = rw (left, i)

    pub drain_refused : idle w.core ≡ false → (made : Made) → make program (needed_of w.core) w ≡ made → (made.number ≡ 0 → ⊥)
        → drain_from (budget - calls) program w calls ≡ drain_ends made.world calls made.number
    unfolding drain_from
    drain_refused i made e z = rw (left, i, e, ne_eqb made.number 0 z)

    pub drain_goes : idle w.core ≡ false → (made : Made) → make program (needed_of w.core) w ≡ made → made.number ≡ 0
        → drain_from (budget - (calls + 1)) program made.world (calls + 1) ≡ drain_from (budget - calls) program w calls
    unfolding drain_from
    drain_goes i made e z = rw (left, i, e, eq-eqb made.number 0 z, add-one calls)

module _ (program : List ℕ) (w : World) where
  pub drain_lent : lent_refusal w.core program w.memory ≡ 0 → drain_of program w ≡ drain_from (3 * w.core.count) program w 0
  unfolding drain_of
  drain_lent e = rw (eq-eqb (lent_refusal w.core program w.memory) 0 e)

  pub drain_unlent : (number : ℕ) → number ≡ lent_refusal w.core program w.memory → (number ≡ 0 → ⊥) → drain_of program w ≡ drain_ends w 0 number
  unfolding drain_of
  drain_unlent number e h = rw (e, ne_eqb (lent_refusal w.core program w.memory) 0 (λ z. h (e ∙ z)))
