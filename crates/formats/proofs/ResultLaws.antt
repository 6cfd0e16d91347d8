-- The result's bytes, one word after the other.
use Prim.Native.Nat.{ℕ, zero, suc, ◌/◌, ◌%◌, ◌<◌}
use mathlib.Core.Path.{◌≡◌, refl, ap, ◌∙◌}
use mathlib.Core.List.{List, [], ◌∷◌, ◌++◌}
use native.Mathlib.Nat.{div-div-eq-div-mul}
use native.Mathlib.Omega.{arith}
use lib.ListN.{length, get_or}
use Rattle.std.specs.List.{flat_map}
use Rattle.formats.specs.Result.{word_bytes, result_bytes}

-- the lowest size bytes of a value, the lowest first
unfoldable pub digits : ℕ → ℕ → List ℕ
digits zero value = []
digits (suc size) value = value % 256 ∷ digits size (value / 256)

pub word_digits : (w : ℕ) → digits 4 w ≡ word_bytes w
unfolding digits
word_digits w = rw (div-div-eq-div-mul w 256 256, div-div-eq-div-mul w 65_536 256)

pub bytes_of : (words : List ℕ) (parts : List (List ℕ)) → length parts ≡ length words → ((i : ℕ) → i < length words → get_or parts i [] ≡ word_bytes (get_or words i 0))
    → flat_map (λ (part : List ℕ). part) parts ≡ result_bytes words
unfolding result_bytes
bytes_of [] [] e h = refl
bytes_of [] (part ∷ parts) e h = absurd (omega arith)
bytes_of (word ∷ words) [] e h = absurd (omega arith)
bytes_of (word ∷ words) (part ∷ parts) e h =
    ap (λ (x : List ℕ). x ++ flat_map (λ (y : List ℕ). y) parts) (h 0 (omega arith))
    ∙ ap (λ (x : List ℕ). word_bytes word ++ x) (bytes_of words parts (omega arith) (λ i l. h (suc i) (omega arith)))
