-- Laws of the parts of a word. With `field` shut, sums of parts are linear.
use Rattle.std.proofs.Common.{◌≡◌, ℕ, ◌+◌, ◌*◌, ◌/◌, ◌%◌, ◌^◌, ◌<◌, sym, ap, ◌∙◌, mod-lt, mod-eq_of_lt, add_comm, one-mul, div-one, arith, lit<, pow_pos, shr-shr}
use lib.Pow.{mod-pow-add, mod-mod-pow}
use lib.Pow as Pow
use Rattle.word.specs.Field.{field}

pub below : (w low count : ℕ) → field w low count < 2 ^ count
unfolding field
below w low count = mod-lt (w / 2 ^ low) (pow_pos count)

-- a part is its low bits and its high bits
pub split : (w low a b : ℕ) → field w low (b + a) ≡ field w low a + field w (low + a) b * 2 ^ a
unfolding field
split w low a b = mod-pow-add (w / 2 ^ low) b a ∙ rw (shr-shr w low a) (add_comm _ _)

pub whole : (w count : ℕ) → w < 2 ^ count → field w 0 count ≡ w
unfolding field
whole w count h = rw (div-one w) (mod-eq_of_lt h)

pub lowest : (w count : ℕ) → field w 0 count ≡ w % 2 ^ count
unfolding field
lowest w count = rw (div-one w)

-- a part of the low bits is a part of the word
pub of_low : (w low count more : ℕ) → field (w % 2 ^ (more + count + low)) low count ≡ field w low count
unfolding field
of_low w low count more = rw (Pow.field w (more + count) low) (mod-mod-pow (w / 2 ^ low) more count)

-- the low bits and the high bits of a sum
pub two_parts : (k a b x y : ℕ) → a < 2 ^ k → x < 2 ^ k → a + b * 2 ^ k ≡ x + y * 2 ^ k → (a ≡ x) × (b ≡ y)
two_parts k a b x y h g e =
    let f : b * 2 ^ k + a ≡ y * 2 ^ k + x = add_comm (b * 2 ^ k) a ∙ e ∙ add_comm x (y * 2 ^ k) in
    (sym (Pow.low b k h) ∙ ap (λ (n : ℕ). n % 2 ^ k) f ∙ Pow.low y k g, sym (Pow.high b k h) ∙ ap (λ (n : ℕ). n / 2 ^ k) f ∙ Pow.high y k g)

-- a power of 2 below 2^32, as a shift makes it
pub shifted_one : (k : ℕ) → k < 32 → (1 * 2 ^ k) % 2 ^ 32 ≡ 2 ^ k
shifted_one k h = Pow.shl_exact 1 k 32 (lit< tt) (omega arith) ∙ one-mul (2 ^ k)
