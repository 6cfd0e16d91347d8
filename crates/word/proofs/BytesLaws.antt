-- Laws of numbers in bytes, over the size.
use Rattle.std.proofs.Common.{◌≡◌, ℕ, zero, suc, ◌+◌, ◌-◌, ◌*◌, ◌/◌, ◌%◌, ◌^◌, ◌<◌, ◌≤◌, ◌⊎◌, List, length, set, sym, refl, ap, ◌∙◌, inl, inr, ⊎_elim, add_comm, pow-suc, arith, length-set, get_or-set_other, get_or-set_same, pow-add}
use native.Mathlib.Nat.{mod-one}
use lib.Arith.{mod-mul}
use Rattle.word.specs.Bytes.{number, byte_of, put}

-- a number depends only on its bytes
pub number_same : (size : ℕ) (f g : ℕ → ℕ) (at : ℕ) → ((k : ℕ) → at ≤ k → k < at + size → f k ≡ g k) → number f at size ≡ number g at size
unfolding number
number_same zero f g at same = refl
number_same (suc size) f g at same =
    rw (same at (omega arith) (omega arith), number_same size f g (at + 1) (λ k l h. same k (omega arith) (omega arith)))

pub put_length : (size : ℕ) (bytes : List ℕ) (at value : ℕ) → length (put bytes at size value) ≡ length bytes
unfolding put
put_length zero bytes at value = refl
put_length (suc size) bytes at value = put_length size (set bytes at (value % 256)) (at + 1) (value / 256) ∙ length-set bytes at (value % 256)

-- a byte that is not stored is as it was
pub put_outside : (size : ℕ) (bytes : List ℕ) (at value k : ℕ) → (k < at) ⊎ (at + size ≤ k) → byte_of (put bytes at size value) k ≡ byte_of bytes k
unfolding put
put_outside zero bytes at value k h = refl
put_outside (suc size) bytes at value k h =
    let later : (k < at + 1) ⊎ (at + 1 + size ≤ k) = ⊎_elim (λ p. inl (omega arith)) (λ p. inr (omega arith)) h in
    let other : k ≡ at → ⊥ = λ e. ⊎_elim (λ p. omega arith) (λ p. omega arith) h in
    put_outside size (set bytes at (value % 256)) (at + 1) (value / 256) k later ∙ get_or-set_other bytes at k (value % 256) 0 other

positive : (size : ℕ) → 0 < 256 ^ size
positive zero = omega arith
positive (suc size) = rw (pow-suc 256 size) (let h = positive size in omega arith)

-- what was stored is loaded
pub number_put : (size : ℕ) (bytes : List ℕ) (at value : ℕ) → at + size ≤ length bytes → number (byte_of (put bytes at size value)) at size ≡ value % 256 ^ size
unfolding number put
number_put zero bytes at value h = sym (mod-one value)
number_put (suc size) bytes at value h =
    let first = set bytes at (value % 256) in
    let k : at + 1 + size ≤ length first = omega (arith, length-set bytes at (value % 256)) in
    rw (put_outside size first (at + 1) (value / 256) at (inl (omega arith)), get_or-set_same bytes at (value % 256) 0 (omega arith), number_put size first (at + 1) (value / 256) k, pow-suc 256 size, mod-mul value {m = 256 ^ size} {c = 256} (positive size) (omega arith)) (add_comm _ _)

-- bytes in bits
pub bytes_bits : (size : ℕ) → 256 ^ size ≡ 2 ^ (8 * size)
bytes_bits zero = refl
bytes_bits (suc size) =
    let e : 8 * suc size ≡ 8 * size + 8 = omega arith in
    pow-suc 256 size ∙ ap (λ (n : ℕ). n * 256) (bytes_bits size) ∙ sym (pow-add 2 (8 * size) 8) ∙ ap (λ (n : ℕ). 2 ^ n) (sym e)

-- the sign bit halves the range
pub bytes_half : (size : ℕ) → 0 < size → 256 ^ size ≡ 2 ^ (8 * size - 1) + 2 ^ (8 * size - 1)
bytes_half size h =
    let e : 8 * size ≡ suc (8 * size - 1) = omega arith in
    let p = pow-suc 2 (8 * size - 1) in
    bytes_bits size ∙ ap (λ (n : ℕ). 2 ^ n) e ∙ p ∙ omega arith
