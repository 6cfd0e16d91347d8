-- The statement on the rate.
use Prim.Native.Nat.{ℕ, ◌+◌, ◌*◌, ◌/◌, ◌%◌, ◌<◌, ◌≤◌}
use mathlib.Core.Path.{◌≡◌, refl, ap, ◌∙◌}
use mathlib.Core.Bool.{Bool, true, false}
use native.Mathlib.Omega.{arith}
use borrow.Author.Tests.{eqb-true, eqb-false, ltb-true, ltb-false, ne_eqb}
use lib.Dec.{eqb, ltb}
use Rattle.std.proofs.Math.Nat.{mul-le-mul_left}
use Rattle.isa.specs.Reads.{choose}
use Rattle.formats.specs.Rate.{even_one, nearest, rate_of, Rounded, RateStatement}

module _ (a b : ℕ) (some : 0 < b) where
  abbrev below : ℕ
  below = a / b

  abbrev left : ℕ
  left = a % b

  this_one : 2 * left ≤ b → (2 * left ≡ b → below % 2 ≡ 0) → Rounded a b below
  this_one h e = record { near = omega arith; even = λ q. e (omega arith) }

  next_one : b ≤ 2 * left → (2 * left ≡ b → (below + 1) % 2 ≡ 0) → Rounded a b (below + 1)
  next_one h e = record { near = omega arith; even = λ q. e (omega arith) }

  at_half : (x : Bool) → eqb (below % 2) 0 ≡ x → 2 * left ≡ b → Rounded a b (choose x below (below + 1))
  at_half true e h = let t = eqb-true (below % 2) 0 e in this_one (omega arith) (λ q. t)
  at_half false e h = let f = eqb-false (below % 2) 0 e in next_one (omega arith) (λ q. omega arith)

  from_half : (x : Bool) → ltb b (2 * left) ≡ x → b ≤ 2 * left → Rounded a b (choose x (below + 1) (even_one below))
  from_half true e h = let t = ltb-true b (2 * left) e in next_one h (λ q. omega arith)
  from_half false e h = let f = ltb-false b (2 * left) e in at_half (eqb (below % 2) 0) refl (omega arith)

  from_none : (x : Bool) → ltb (2 * left) b ≡ x → Rounded a b (choose x below (choose (ltb b (2 * left)) (below + 1) (even_one below)))
  from_none true e = let t = ltb-true (2 * left) b e in this_one (omega arith) (λ q. omega arith)
  from_none false e = let f = ltb-false (2 * left) b e in from_half (ltb b (2 * left)) refl (omega arith)

  rounded : Rounded a b (nearest a b)
  rounded = from_none (ltb (2 * left) b) refl

  -- of two numbers that lie further apart than 1, one lies further away than a half; two neighbours would both be even
  not_both : (m n : ℕ) → Rounded a b m → Rounded a b n → m < n → ⊥
  not_both m n p q h =
      let apart : m + 2 ≤ n → ⊥ = λ l. omega (arith, mul-le-mul_left b l, p.near, q.near) in
      let next : n ≡ m + 1 = omega (arith, apart) in
      let product : b * n ≡ b * m + b = ap (λ (k : ℕ). b * k) next ∙ omega arith in
      let this = p.even (omega (arith, p.near, q.near)) in
      let that = q.even (omega (arith, p.near, q.near)) in
      omega arith

  only : (m n : ℕ) → Rounded a b m → Rounded a b n → m ≡ n
  only m n p q = omega (arith, not_both m n p q, not_both n m q p)

  bounded : (n c : ℕ) → Rounded a b n → a ≤ b * c → n ≤ c
  bounded n c p h =
      let beyond : c + 1 ≤ n → ⊥ = λ l. omega (arith, mul-le-mul_left b l, p.near) in
      omega (arith, beyond)

module _ (committed : ℕ) where
  none : rate_of committed 0 ≡ 0
  none = refl

  of_some : (accepted : ℕ) → 0 < accepted → Rounded (committed * 1_000) accepted (rate_of committed accepted)
  of_some accepted some = rw (ne_eqb accepted 0 (λ e. omega arith)) (rounded (committed * 1_000) accepted some)

  settled : (accepted n : ℕ) → 0 < accepted → Rounded (committed * 1_000) accepted n → n ≡ rate_of committed accepted
  settled accepted n some p = only (committed * 1_000) accepted some n (rate_of committed accepted) p (of_some accepted some)

  at_most : (accepted : ℕ) → committed ≤ accepted → rate_of committed accepted ≤ 1_000
  at_most accepted h = by (eqb accepted 0) refl
    where
      by : (x : Bool) → eqb accepted 0 ≡ x → rate_of committed accepted ≤ 1_000
      by true e = rw e (omega arith)
      by false e =
          let some : 0 < accepted = omega (arith, eqb-false accepted 0 e) in
          bounded (committed * 1_000) accepted some (rate_of committed accepted) 1_000 (of_some accepted some) (omega arith)

pub statement : RateStatement
statement = record { none = none; rounded = of_some; settled = settled; at_most = at_most; worked = refl }
