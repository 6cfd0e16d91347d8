-- A word is its fixed bits and its fields, at their places: so an instruction that was read has the word that it was read from.
use Prim.Native.Nat.{ℕ, ◌+◌, ◌-◌, ◌*◌, ◌%◌, ◌^◌, ◌<◌}
use mathlib.Core.Path.{◌≡◌, refl, sym, ap, ◌∙◌}
use native.Mathlib.Omega.{arith}
use Rattle.word.specs.Field.{field}
use Rattle.word.specs.Signed as Signed
use Rattle.word.specs.Signed.{extend}
use Rattle.word.proofs.FieldLaws.{below, split, whole, of_low}
use Rattle.word.proofs.ExtendLaws.{Range, extend_low}
use Rattle.isa.specs.Listing.{Format, R, I, S, B, U, J, Shift, Whole, format_of}
use Rattle.isa.specs.Reads.{legal, fixed_part, constant_of, fields_of, read_of}
use Rattle.isa.specs.Encodes.{constant_part, word_of}
use Rattle.isa.specs.declared.Instruction.{Instruction}
use Rattle.isa.proofs.Parts.{parts}
use Rattle.isa.proofs.ReadLaws.{legal_word, operation_kept}

-- constants of 12, 13 and 21 bits
pub range12 : Range 0x800
range12 = record { times = 2 ^ 20 - 1; more = refl }

pub range13 : Range 0x1000
range13 = record { times = 2 ^ 19 - 1; more = refl }

pub range21 : Range 0x10_0000
range21 = record { times = 2 ^ 11 - 1; more = refl }

-- the bits of a number that lie within its lowest are those of the lowest
same : (x n low count more : ℕ) → x % 2 ^ (more + count + low) ≡ n → field x low count ≡ field n low count
same x n low count more e = sym (of_low x low count more) ∙ ap (λ (m : ℕ). field m low count) e

-- a constant that is made of parts has those parts
made_s : (n a b : ℕ) → a < 32 → b < 128 → n ≡ b * 2 ^ 5 + a → (field n 5 7 ≡ b) × (field n 0 5 ≡ a)
made_s n a b ha hb e =
    let all = whole n 12 (omega arith) in
    let s = split n 0 5 7 in
    let l = below n 0 5 in
    (omega arith, omega arith)

made_b : (n a b c d : ℕ) → a < 16 → b < 64 → c < 2 → d < 2 → n ≡ d * 2 ^ 12 + c * 2 ^ 11 + b * 2 ^ 5 + a * 2
    → (field n 12 1 ≡ d) × (field n 11 1 ≡ c) × (field n 5 6 ≡ b) × (field n 1 4 ≡ a)
made_b n a b c d ha hb hc hd e =
    let all = whole n 13 (omega arith) in
    let s0 = split n 0 1 12 in
    let s1 = split n 1 4 8 in
    let s5 = split n 5 6 2 in
    let s11 = split n 11 1 1 in
    let l0 = below n 0 1 in
    let l1 = below n 1 4 in
    let l5 = below n 5 6 in
    let l11 = below n 11 1 in
    (omega arith, omega arith, omega arith, omega arith)

made_j : (n a b c d : ℕ) → a < 1024 → b < 2 → c < 256 → d < 2 → n ≡ d * 2 ^ 20 + c * 2 ^ 12 + b * 2 ^ 11 + a * 2
    → (field n 20 1 ≡ d) × (field n 12 8 ≡ c) × (field n 11 1 ≡ b) × (field n 1 10 ≡ a)
made_j n a b c d ha hb hc hd e =
    let all = whole n 21 (omega arith) in
    let s0 = split n 0 1 20 in
    let s1 = split n 1 10 10 in
    let s11 = split n 11 1 9 in
    let s12 = split n 12 8 1 in
    let l0 = below n 0 1 in
    let l1 = below n 1 10 in
    let l11 = below n 11 1 in
    let l12 = below n 12 8 in
    (omega arith, omega arith, omega arith, omega arith)

-- the fixed bits, the registers and the constant's bits x, at their places, are the word
module _ (w : ℕ) (h : w < 2 ^ 32) where
  join_r : fixed_part R w + field w 7 5 * 2 ^ 7 + field w 15 5 * 2 ^ 15 + field w 20 5 * 2 ^ 20 + constant_part R 0 ≡ w
  unfolding fixed_part constant_part
  join_r = let p = parts w h in omega arith

  join_i : (x : ℕ) → x % 2 ^ 12 ≡ field w 20 12 → fixed_part I w + field w 7 5 * 2 ^ 7 + field w 15 5 * 2 ^ 15 + 0 * 2 ^ 20 + constant_part I x ≡ w
  unfolding fixed_part constant_part
  join_i x e =
      let p = parts w h in
      let s = same x (field w 20 12) 0 12 0 e in
      let t = whole (field w 20 12) 12 (below w 20 12) in omega arith

  join_s : (x n : ℕ) → x % 2 ^ 12 ≡ n → n ≡ field w 25 7 * 2 ^ 5 + field w 7 5
      → fixed_part S w + 0 * 2 ^ 7 + field w 15 5 * 2 ^ 15 + field w 20 5 * 2 ^ 20 + constant_part S x ≡ w
  unfolding fixed_part constant_part
  join_s x n e f =
      let m = made_s n (field w 7 5) (field w 25 7) (below w 7 5) (below w 25 7) f in
      rw (same x n 5 7 0 e, same x n 0 5 7 e, m.0, m.1) (let p = parts w h in omega arith)

  join_b : (x n : ℕ) → x % 2 ^ 13 ≡ n → n ≡ field w 31 1 * 2 ^ 12 + field w 7 1 * 2 ^ 11 + field w 25 6 * 2 ^ 5 + field w 8 4 * 2
      → fixed_part B w + 0 * 2 ^ 7 + field w 15 5 * 2 ^ 15 + field w 20 5 * 2 ^ 20 + constant_part B x ≡ w
  unfolding fixed_part constant_part
  join_b x n e f =
      let m = made_b n (field w 8 4) (field w 25 6) (field w 7 1) (field w 31 1) (below w 8 4) (below w 25 6) (below w 7 1) (below w 31 1) f in
      rw (same x n 12 1 0 e, same x n 5 6 2 e, same x n 1 4 8 e, same x n 11 1 1 e, m.0, m.1, m.2, m.3) (let p = parts w h in omega arith)

  join_u : fixed_part U w + field w 7 5 * 2 ^ 7 + 0 * 2 ^ 15 + 0 * 2 ^ 20 + constant_part U (field w 12 20) ≡ w
  unfolding fixed_part constant_part
  join_u =
      let p = parts w h in
      let t = whole (field w 12 20) 20 (below w 12 20) in omega arith

  join_j : (x n : ℕ) → x % 2 ^ 21 ≡ n → n ≡ field w 31 1 * 2 ^ 20 + field w 12 8 * 2 ^ 12 + field w 20 1 * 2 ^ 11 + field w 21 10 * 2
      → fixed_part J w + field w 7 5 * 2 ^ 7 + 0 * 2 ^ 15 + 0 * 2 ^ 20 + constant_part J x ≡ w
  unfolding fixed_part constant_part
  join_j x n e f =
      let m = made_j n (field w 21 10) (field w 20 1) (field w 12 8) (field w 31 1) (below w 21 10) (below w 20 1) (below w 12 8) (below w 31 1) f in
      rw (same x n 20 1 0 e, same x n 1 10 10 e, same x n 11 1 9 e, same x n 12 8 1 e, m.0, m.1, m.2, m.3) (let p = parts w h in omega arith)

  join_shift : fixed_part Shift w + field w 7 5 * 2 ^ 7 + field w 15 5 * 2 ^ 15 + 0 * 2 ^ 20 + constant_part Shift (field w 20 5) ≡ w
  unfolding fixed_part constant_part
  join_shift =
      let p = parts w h in
      let t = whole (field w 20 5) 5 (below w 20 5) in omega arith

join_whole : (w : ℕ) → fixed_part Whole w + 0 * 2 ^ 7 + 0 * 2 ^ 15 + 0 * 2 ^ 20 + constant_part Whole 0 ≡ w
unfolding fixed_part constant_part
join_whole w = omega arith

-- for every format: a clause hands the constant's lowest bits to that format's sum
joined : (F : Format) (operation w : ℕ) → w < 2 ^ 32
    → fixed_part F w + (fields_of F operation w).rd * 2 ^ 7 + (fields_of F operation w).rs1 * 2 ^ 15 + (fields_of F operation w).rs2 * 2 ^ 20 + constant_part F (Signed.word_of (fields_of F operation w).constant) ≡ w
unfolding fields_of constant_of
joined R operation w h = join_r w h
joined I operation w h = join_i w h (Signed.word_of (extend 0x800 (field w 20 12))) (extend_low 0x800 range12 (field w 20 12) (below w 20 12))
joined S operation w h =
    let n = field w 25 7 * 2 ^ 5 + field w 7 5 in
    let p = parts w h in
    join_s w h (Signed.word_of (extend 0x800 n)) n (extend_low 0x800 range12 n (omega arith)) refl
joined B operation w h =
    let n = field w 31 1 * 2 ^ 12 + field w 7 1 * 2 ^ 11 + field w 25 6 * 2 ^ 5 + field w 8 4 * 2 in
    let p = parts w h in
    join_b w h (Signed.word_of (extend 0x1000 n)) n (extend_low 0x1000 range13 n (omega arith)) refl
joined U operation w h = join_u w h
joined J operation w h =
    let n = field w 31 1 * 2 ^ 20 + field w 12 8 * 2 ^ 12 + field w 20 1 * 2 ^ 11 + field w 21 10 * 2 in
    let p = parts w h in
    join_j w h (Signed.word_of (extend 0x10_0000 n)) n (extend_low 0x10_0000 range21 n (omega arith)) refl
joined Shift operation w h = join_shift w h
joined Whole operation w h = join_whole w

pub read_word : (w : ℕ) (i : Instruction) → w < 2 ^ 32 → read_of w ≡ legal i → word_of i ≡ w
unfolding word_of
read_word w i h p =
    let l = legal_word w i p in
    let F = format_of l.operation in
    rw (l.is, operation_kept F l.operation w, sym l.bits) (joined F l.operation w h)
