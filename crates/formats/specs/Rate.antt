-- The rate. Document 01: "Rate is committed × 1000 ÷ accepted, …; 0 if none accepted." Document 02, wish 1: "round a half to
-- the even neighbour".
use Rattle.std.specs.Prelude.{ℕ, ◌+◌, ◌-◌, ◌*◌, ◌/◌, ◌%◌, ◌≡◌, ◌≤◌, ◌<◌, List, [], ◌∷◌, map, eqb, ltb}
use Rattle.isa.specs.Reads.{choose}

-- the even one of a whole number and the next
abbrev pub even_one : ℕ → ℕ
even_one below = choose (eqb (below % 2) 0) below (below + 1)

-- a ÷ b, rounded to a whole number
abbrev pub nearest : ℕ → ℕ → ℕ
nearest a b =
    let below = a / b in
    let left = a % b in
    -- less than a half is left
    choose (ltb (2 * left) b) below
    -- more than a half
    (choose (ltb b (2 * left)) (below + 1)
    -- exactly a half
    (even_one below))

abbrev pub rate_of : ℕ → ℕ → ℕ
rate_of committed accepted = choose (eqb accepted 0) 0 (nearest (committed * 1_000) accepted)

-- What settles the rate, said without quotient and remainder.

-- one of the two differences is 0
abbrev pub distance : ℕ → ℕ → ℕ
distance a b = a - b + (b - a)

-- a ÷ b may be rounded to n. The distance of n to the true quotient, times b, is that of n × b to a.
pub record Rounded (a b n : ℕ) : Type 0 where
  -- the distance is at most a half
  pub near : 2 * distance (n * b) a ≤ b
  -- where it is exactly a half, n is even
  pub even : 2 * distance (n * b) a ≡ b → n % 2 ≡ 0

-- committed, accepted, and what their rate has to be
pub record Row : Type 0 where
  pub committed : ℕ
  pub accepted : ℕ
  pub rate : ℕ

abbrev pub row : ℕ → ℕ → ℕ → Row
row committed accepted rate = record { committed = committed; accepted = accepted; rate = rate }

-- of 62.5, 187.5, 0.5, 1.5, 333.3 and 666.7: "One commit in 16 accepted calls … becomes 62; three in 16 remains 188."
abbrev pub table : List Row
table = row 1 16 62 ∷ row 3 16 188 ∷ row 1 2_000 0 ∷ row 3 2_000 2 ∷ row 1 3 333 ∷ row 2 3 667 ∷ []

pub record RateStatement : Type 0 where
  -- "0 if none accepted"
  pub none : (committed : ℕ) → rate_of committed 0 ≡ 0
  -- the rate is committed × 1000 ÷ accepted, rounded
  pub rounded : (committed accepted : ℕ) → 0 < accepted → Rounded (committed * 1_000) accepted (rate_of committed accepted)
  -- and no other number is: that settles the rate
  pub settled : (committed accepted n : ℕ) → 0 < accepted → Rounded (committed * 1_000) accepted n → n ≡ rate_of committed accepted
  -- of counts it is at most 1,000, since calls that were committed were accepted
  pub at_most : (committed accepted : ℕ) → committed ≤ accepted → rate_of committed accepted ≤ 1_000
  -- computed of each row
  pub worked : map (λ (r : Row). rate_of r.committed r.accepted) table ≡ map (λ (r : Row). r.rate) table
