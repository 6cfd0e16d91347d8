-- The bits of a word that a mask keeps are its format's fixed bits.
use Prim.Native.Nat.{ℕ, ◌+◌, ◌*◌, ◌/◌, ◌%◌, ◌^◌, ◌<◌}
use Rattle.std.proofs.Common.{◌≡◌, sym, ap, ◌∙◌, arith, bit_and, mod-lt, mod-eq_of_lt, pow_pos}
use Rattle.std.proofs.lemmas.Nat.{and_mask, and_block}
use lib.Pow.{mod-mod-pow}
use Rattle.std.proofs.Math.Pow as Pow
use Rattle.word.specs.Field.{field}
use Rattle.word.proofs.FieldLaws.{lowest, of_low}

-- the mask's bits from bit k on keep the word's high part, those below it the low part
in_two : (w k high low : ℕ) → low < 2 ^ k → bit_and w (high * 2 ^ k + low) ≡ bit_and (w / 2 ^ k) high * 2 ^ k + bit_and (w % 2 ^ k) low
in_two w k high low h =
    ap (λ (n : ℕ). bit_and n (high * 2 ^ k + low)) (sym (Pow.split w k)) ∙ and_block k (w / 2 ^ k) high (w % 2 ^ k) low (mod-lt w (pow_pos k)) h

pub opcode : (w : ℕ) → bit_and w 0x7f ≡ field w 0 7
opcode w = and_mask w 7 ∙ sym (lowest w 7)

-- a part of the low bits of a word
low_of : (w j k : ℕ) → w % 2 ^ (j + k) % 2 ^ k ≡ field w 0 k
low_of w j k = mod-mod-pow w j k ∙ sym (lowest w k)

pub short : (w : ℕ) → bit_and w 0x707f ≡ field w 12 3 * 2 ^ 12 + field w 0 7
unfolding field
short w = in_two w 12 7 0x7f (omega arith) ∙ rw (and_mask (w / 2 ^ 12) 3, and_mask (w % 2 ^ 12) 7, low_of w 5 7)

upper : (w : ℕ) → bit_and (w / 2 ^ 25) 0x7f ≡ field w 25 7
unfolding field
upper w = and_mask (w / 2 ^ 25) 7

pub long : (w : ℕ) → bit_and w 0xfe00_707f ≡ field w 25 7 * 2 ^ 25 + field w 12 3 * 2 ^ 12 + field w 0 7
long w = in_two w 25 0x7f 0x707f (omega arith) ∙ rw (upper w, short (w % 2 ^ 25), of_low w 12 3 10, of_low w 0 7 18) (omega arith)

pub whole : (w : ℕ) → w < 2 ^ 32 → bit_and w 0xffff_ffff ≡ w
whole w h = and_mask w 32 ∙ mod-eq_of_lt h
