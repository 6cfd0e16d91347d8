-- Lists in rising order, and lists of zeros.
use Prim.Native.Nat.{ℕ, zero, suc, ◌+◌, ◌≤◌, ◌<◌}
use mathlib.Core.Path.{◌≡◌, refl, ap}
use mathlib.Core.Logic.{◌≢◌}
use native.Mathlib.Omega.{arith}
use native.Mathlib.Decide.{dec_lt}
use lib.ListN.{length, get_or, replicate}
use Rattle.tables.specs.FreeList.{occurrences}
use Rattle.renaming.specs.SetUp.{own_numbers}
use Rattle.renaming.specs.Statement.{rising}
use Rattle.agreement.proofs.Counting.{same, same_refl, same_not}

pub rising_length : (a n : ℕ) → length (rising a n) ≡ n
unfolding rising
rising_length a zero = refl
rising_length a (suc n) = ap suc (rising_length (suc a) n)

pub rising_at : (a n i : ℕ) → i < n → get_or (rising a n) i 0 ≡ a + i
unfolding rising
rising_at a zero i h = absurd (omega arith)
rising_at a (suc n) zero h = omega arith
rising_at a (suc n) (suc i) h = omega (arith, rising_at (suc a) n i (omega arith))

pub rising_below : (k a n : ℕ) → k < a → occurrences k (rising a n) ≡ 0
unfolding rising occurrences same
rising_below k a zero h = refl
rising_below k a (suc n) h = omega (arith, same_not k a (omega arith), rising_below k (suc a) n (omega arith))

pub rising_past : (k a n : ℕ) → a + n ≤ k → occurrences k (rising a n) ≡ 0
unfolding rising occurrences same
rising_past k a zero h = refl
rising_past k a (suc n) h = omega (arith, same_not k a (omega arith), rising_past k (suc a) n (omega arith))

pub rising_within : (k a n : ℕ) → a ≤ k → k < a + n → occurrences k (rising a n) ≡ 1
unfolding rising occurrences same
rising_within k a zero h l = absurd (omega arith)
rising_within k a (suc n) h l = cases (dec_lt a k) (λ x y. rising_within k (suc a) n x y)
  where
    cases : Dec (a < k) → (suc a ≤ k → k < suc a + n → occurrences k (rising (suc a) n) ≡ 1) → same k a + occurrences k (rising (suc a) n) ≡ 1
    cases (yes y) r = omega (arith, same_not k a (omega arith), r (omega arith) (omega arith))
    cases (no y) r =
        let e : k ≡ a = omega arith in
        omega (arith, ap (λ (x : ℕ). same x a) e, same_refl a, rising_below k (suc a) n (omega arith))

pub zeros_none : (k n : ℕ) → k ≢ 0 → occurrences k (replicate n 0) ≡ 0
unfolding occurrences same
zeros_none k zero z = refl
zeros_none k (suc n) z = omega (arith, same_not k 0 z, zeros_none k n z)

pub zeros_all : (n : ℕ) → occurrences 0 (replicate n 0) ≡ n
unfolding occurrences same
zeros_all zero = refl
zeros_all (suc n) = omega (arith, same_refl 0, zeros_all n)

pub zeros_at : (n i : ℕ) → ◌≡◌ {A = ℕ} (get_or (replicate n 0) i 0) 0
zeros_at zero i = refl
zeros_at (suc n) zero = refl
zeros_at (suc n) (suc i) = zeros_at n i

pub own_rising : own_numbers ≡ rising 0 32
unfolding rising
own_rising = refl
