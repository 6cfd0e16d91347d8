-- "Result, 39 words of 4 bytes, little endian".
use Rattle.std.specs.Prelude.{ℕ, ◌*◌, ◌/◌, ◌%◌, List, [], ◌∷◌, ◌++◌}

abbrev pub result_words : ℕ
result_words = 39

abbrev pub result_length : ℕ
result_length = 4 * result_words

abbrev pub word_bytes : ℕ → List ℕ
word_bytes w = w % 256 ∷ w / 256 % 256 ∷ w / 65_536 % 256 ∷ w / 16_777_216 % 256 ∷ []

unfoldable pub result_bytes : List ℕ → List ℕ
result_bytes [] = []
result_bytes (word ∷ words) = word_bytes word ++ result_bytes words
