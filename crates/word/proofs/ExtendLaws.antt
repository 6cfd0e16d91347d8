-- Laws of sign extension, over the half range.
use Rattle.std.proofs.Common.{◌≡◌, ℕ, suc, ◌+◌, ◌-◌, ◌*◌, ◌%◌, ◌^◌, ◌<◌, ◌≤◌, Bool, true, false, ltb, ℤ, pos, negsuc, refl, ap, ◌∙◌, mod-eq_of_lt, arith, ltb-false, ltb-true, le-ltb, lt-ltb, le-leb, leb-true}
use native.Mathlib.Nat.{add-mul-mod_self_right}
use lib.Signed.{le_z}
use mir.Val.{sel}
use Rattle.word.specs.Signed.{word_of, extend}

-- the range of the lowest bits divides that of the words
pub record Range (half : ℕ) : Type 0 where
  pub times : ℕ
  pub more : times * (half + half) + (half + half) ≡ 2 ^ 32

module _ (half : ℕ) (range : Range half) where
  -- what stands above the lowest bits does not show in them
  above : (n : ℕ) → n < half + half → (n + range.times * (half + half)) % (half + half) ≡ n
  above n h = add-mul-mod_self_right n range.times (half + half) ∙ mod-eq_of_lt h

  -- the lowest bits of an extended number are the number
  low_at : (n : ℕ) (b : Bool) → ltb n half ≡ b → n < half + half → word_of (sel b (pos n) (negsuc (half + half - suc n))) % (half + half) ≡ n
  low_at n true e h = mod-eq_of_lt h
  low_at n false e h =
      let whole = range.more in
      let k = range.times * (half + half) in
      let sum : 2 ^ 32 - suc (half + half - suc n) ≡ n + k = omega arith in
      ap (λ (m : ℕ). m % (half + half)) sum ∙ above n h

  pub extend_low : (n : ℕ) → n < half + half → word_of (extend half n) % (half + half) ≡ n
  unfolding extend
  extend_low n h = low_at n (ltb n half) refl h

  -- a number from −half to half − 1 is its lowest bits, extended
  pub extend_back : (m : ℕ) (number : ℤ) → half ≡ suc m → le_z (negsuc m) number ≡ true → le_z number (pos m) ≡ true
      → extend half (word_of number % (half + half)) ≡ number
  unfolding extend
  extend_back m (pos a) e l h =
      let small = leb-true a m h in
      let same : a % (half + half) ≡ a = mod-eq_of_lt (omega arith) in
      rw (same, lt-ltb a half (omega arith))
  extend_back m (negsuc a) e l h =
      let small = leb-true a m l in
      let whole = range.more in
      let k = range.times * (half + half) in
      let n = half + half - suc a in
      let sum : 2 ^ 32 - suc a ≡ n + k = omega arith in
      let same : (2 ^ 32 - suc a) % (half + half) ≡ n = ap (λ (x : ℕ). x % (half + half)) sum ∙ above n (omega arith) in
      let back : half + half - suc n ≡ a = omega arith in
      rw (same, le-ltb n half (omega arith)) (ap negsuc back)

-- an extended number lies between the ends
from_at : (half n m : ℕ) (b : Bool) → ltb n half ≡ b → n < half + half → half ≡ suc m → le_z (negsuc m) (sel b (pos n) (negsuc (half + half - suc n))) ≡ true
from_at half n m true e h k = refl
from_at half n m false e h k = le-leb (half + half - suc n) m (omega (arith, ltb-false n half e))

pub extend_from : (half n m : ℕ) → n < half + half → half ≡ suc m → le_z (negsuc m) (extend half n) ≡ true
unfolding extend
extend_from half n m h k = from_at half n m (ltb n half) refl h k

to_at : (half n m : ℕ) (b : Bool) → ltb n half ≡ b → (n < half → n ≤ m) → le_z (sel b (pos n) (negsuc (half + half - suc n))) (pos m) ≡ true
to_at half n m true e h = le-leb n m (h (ltb-true n half e))
to_at half n m false e h = refl

pub extend_to : (half n m : ℕ) → (n < half → n ≤ m) → le_z (extend half n) (pos m) ≡ true
unfolding extend
extend_to half n m h = to_at half n m (ltb n half) refl h
