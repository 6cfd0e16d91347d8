-- An accepted instruction's word has its operation's fixed bits, and its fields.
use Prim.Native.Nat.{ℕ, suc, ◌+◌, ◌*◌, ◌%◌, ◌^◌, ◌≤◌, ◌<◌}
use mathlib.Core.Path.{◌≡◌, refl, sym, ap, ◌∙◌}
use mathlib.Core.Bool.{Bool, true}
use native.Mathlib.Omega.{arith}
use borrow.Author.Tests.{leb-true, le-leb}
use lib.Dec.{eqb, eqb→eq}
use lib.IntN.{ℤ, pos, negsuc}
use lib.Signed.{le_z}
use Rattle.word.specs.Field.{field}
use Rattle.word.specs.Signed as Signed
use Rattle.word.specs.Signed.{extend}
use Rattle.word.proofs.FieldLaws.{below, split, whole, lowest, two_parts}
use Rattle.word.proofs.ExtendLaws.{Range, extend_back}
use Rattle.laws.proofs.Table.{anywhere}
use Rattle.isa.specs.Listing.{Format, R, I, S, B, U, J, Shift, Whole, Row, listing, row_of, format_of, fixed_of}
use Rattle.isa.specs.Reads.{instruction, fixed_part, constant_of, fields_of}
use Rattle.isa.specs.Encodes.{limits_of, constant_part}
use Rattle.isa.specs.declared.Instruction.{Instruction}
use Rattle.isa.proofs.Accepted.{Within}
use Rattle.isa.proofs.WordBack.{range12, range13, range21}

abbrev clean : Row → Bool
clean r = eqb (fixed_part r.format r.fixed) r.fixed

-- an operation's fixed bits leave its fields zero
pub fixed_clean : (operation : ℕ) → fixed_part (format_of operation) (fixed_of operation) ≡ fixed_of operation
unfolding fixed_part field
fixed_clean operation = eqb→eq _ _ (anywhere clean listing (row_of 0) tt tt operation)

-- a word that is made of six parts has those parts
record Made (w x0 x7 x12 x15 x20 x25 : ℕ) : Type 0 where
  m0 : field w 0 7 ≡ x0
  m7 : field w 7 5 ≡ x7
  m12 : field w 12 3 ≡ x12
  m15 : field w 15 5 ≡ x15
  m20 : field w 20 5 ≡ x20
  m25 : field w 25 7 ≡ x25

made : (w x0 x7 x12 x15 x20 x25 : ℕ) → x0 < 128 → x7 < 32 → x12 < 8 → x15 < 32 → x20 < 32 → x25 < 128
    → w ≡ x0 + x7 * 2 ^ 7 + x12 * 2 ^ 12 + x15 * 2 ^ 15 + x20 * 2 ^ 20 + x25 * 2 ^ 25 → Made w x0 x7 x12 x15 x20 x25
made w x0 x7 x12 x15 x20 x25 h0 h7 h12 h15 h20 h25 e =
    let all = whole w 32 (omega arith) in
    let s0 = split w 0 7 25 in
    let s7 = split w 7 5 20 in
    let s12 = split w 12 3 17 in
    let s15 = split w 15 5 12 in
    let s20 = split w 20 5 7 in
    let l0 = below w 0 7 in
    let l7 = below w 7 5 in
    let l12 = below w 12 3 in
    let l15 = below w 15 5 in
    let l20 = below w 20 5 in
    record { m0 = omega arith; m7 = omega arith; m12 = omega arith; m15 = omega arith; m20 = omega arith; m25 = omega arith }

-- a constant in range is its lowest bits, extended
constant_back : (half m count : ℕ) (r : Range half) (c : ℤ) → half ≡ suc m → half + half ≡ 2 ^ count → le_z (negsuc m) c ≡ true → le_z c (pos m) ≡ true
    → (n : ℕ) → n ≡ field (Signed.word_of c) 0 count → extend half n ≡ c
constant_back half m count r c e p l h n f =
    ap (extend half) (f ∙ lowest (Signed.word_of c) count ∙ ap (λ (d : ℕ). Signed.word_of c % d) (sym p)) ∙ extend_back half r m c e l h

wider : (c : ℤ) (a b : ℕ) → a ≤ b → le_z c (pos a) ≡ true → le_z c (pos b) ≡ true
wider (pos n) a b h e = le-leb n b (let p = leb-true n a e in omega arith)
wider (negsuc n) a b h e = refl

pub natural : (c : ℤ) (m : ℕ) → le_z (pos 0) c ≡ true → le_z c (pos m) ≡ true → (pos (Signed.word_of c) ≡ c) × (Signed.word_of c ≤ m)
natural (pos a) m l h = (refl, leb-true a m h)
natural (negsuc a) m l h = let z : ◌≡◌ {A = ℕ} 0 1 = cc in absurd (omega arith)

-- a number whose lowest bit is 0 is its further bits
even_b : (n : ℕ) → n % 2 ≡ 0 → field n 12 1 * 2 ^ 12 + field n 11 1 * 2 ^ 11 + field n 5 6 * 2 ^ 5 + field n 1 4 * 2 ≡ field n 0 13
even_b n h =
    let z = lowest n 1 in
    let s0 = split n 0 1 12 in
    let s1 = split n 1 4 8 in
    let s5 = split n 5 6 2 in
    let s11 = split n 11 1 1 in omega arith

even_j : (n : ℕ) → n % 2 ≡ 0 → field n 20 1 * 2 ^ 20 + field n 12 8 * 2 ^ 12 + field n 11 1 * 2 ^ 11 + field n 1 10 * 2 ≡ field n 0 21
even_j n h =
    let z = lowest n 1 in
    let s0 = split n 0 1 20 in
    let s1 = split n 1 10 10 in
    let s11 = split n 11 1 9 in
    let s12 = split n 12 8 1 in omega arith

-- what is to be shown of the word
pub record Back (F : Format) (i : Instruction) (fixed w : ℕ) : Type 0 where
  pub bits : fixed_part F w ≡ fixed
  pub is : fields_of F i.operation w ≡ i

same : (i : Instruction) (rd rs1 rs2 : ℕ) (constant : ℤ) → rd ≡ i.rd → rs1 ≡ i.rs1 → rs2 ≡ i.rs2 → constant ≡ i.constant
    → instruction i.operation rd rs1 rs2 constant ≡ i
same i rd rs1 rs2 constant a b c d = rw (a, b, c, d)

pub back : (F : Format) (i : Instruction) (fixed w : ℕ) → fixed_part F fixed ≡ fixed → Within (limits_of F) i
    → w ≡ fixed + i.rd * 2 ^ 7 + i.rs1 * 2 ^ 15 + i.rs2 * 2 ^ 20 + constant_part F (Signed.word_of i.constant) → Back F i fixed w
unfolding fixed_part fields_of constant_of constant_part
back R i fixed w k t e =
    let m = made w (field fixed 0 7) i.rd (field fixed 12 3) i.rs1 i.rs2 (field fixed 25 7) (below fixed 0 7) (omega arith) (below fixed 12 3) (omega arith) (omega arith) (below fixed 25 7) (omega arith) in
    let c = natural i.constant 0 t.from t.to in
    let z : Signed.word_of i.constant ≡ 0 = omega arith in
    record { bits = rw (m.m0, m.m12, m.m25) k; is = same i _ _ _ _ m.m7 m.m15 m.m20 (ap pos (sym z) ∙ c.0) }
back I i fixed w k t e =
    let n = Signed.word_of i.constant in
    let l0 = below n 0 5 in
    let l5 = below n 5 7 in
    let s = split n 0 5 7 in
    let m = made w (field fixed 0 7) i.rd (field fixed 12 3) i.rs1 (field n 0 5) (field n 5 7) (below fixed 0 7) (omega arith) (below fixed 12 3) (omega arith) l0 l5 (omega arith) in
    let f : field w 20 12 ≡ field n 0 12 = split w 20 5 7 ∙ rw (m.m20, m.m25) (sym s) in
    record { bits = rw (m.m0, m.m12) k; is = same i _ _ _ _ m.m7 m.m15 (omega arith) (constant_back 0x800 2047 12 range12 i.constant refl refl t.from t.to (field w 20 12) f) }
back S i fixed w k t e =
    let n = Signed.word_of i.constant in
    let l0 = below n 0 5 in
    let l5 = below n 5 7 in
    let s = split n 0 5 7 in
    let m = made w (field fixed 0 7) (field n 0 5) (field fixed 12 3) i.rs1 i.rs2 (field n 5 7) (below fixed 0 7) l0 (below fixed 12 3) (omega arith) (omega arith) l5 (omega arith) in
    let x = field w 25 7 * 2 ^ 5 + field w 7 5 in
    let f : x ≡ field n 0 12 = rw (m.m25, m.m7, s) (omega arith) in
    record { bits = rw (m.m0, m.m12) k; is = same i _ _ _ _ (omega arith) m.m15 m.m20 (constant_back 0x800 2047 12 range12 i.constant refl refl t.from t.to x f) }
back B i fixed w k t e =
    let n = Signed.word_of i.constant in
    let l11 = below n 11 1 in
    let l1 = below n 1 4 in
    let l5 = below n 5 6 in
    let l12 = below n 12 1 in
    let m = made w (field fixed 0 7) (field n 11 1 + field n 1 4 * 2) (field fixed 12 3) i.rs1 i.rs2 (field n 5 6 + field n 12 1 * 64) (below fixed 0 7) (omega arith) (below fixed 12 3) (omega arith) (omega arith) (omega arith) (omega arith) in
    let u = two_parts 1 (field w 7 1) (field w 8 4) (field n 11 1) (field n 1 4) (below w 7 1) l11 (sym (split w 7 1 4) ∙ m.m7) in
    let v = two_parts 6 (field w 25 6) (field w 31 1) (field n 5 6) (field n 12 1) (below w 25 6) l5 (sym (split w 25 6 1) ∙ m.m25) in
    let x = field w 31 1 * 2 ^ 12 + field w 7 1 * 2 ^ 11 + field w 25 6 * 2 ^ 5 + field w 8 4 * 2 in
    let f : x ≡ field n 0 13 = rw (u.0, u.1, v.0, v.1) (even_b n t.step) in
    record { bits = rw (m.m0, m.m12) k; is = same i _ _ _ _ (omega arith) m.m15 m.m20 (constant_back 0x1000 4095 13 range13 i.constant refl refl t.from (wider i.constant 4094 4095 (omega arith) t.to) x f) }
back U i fixed w k t e =
    let c = natural i.constant 1_048_575 t.from t.to in
    let n = Signed.word_of i.constant in
    let s0 = split n 0 3 17 in
    let s3 = split n 3 5 12 in
    let s8 = split n 8 5 7 in
    let m = made w (field fixed 0 7) i.rd (field n 0 3) (field n 3 5) (field n 8 5) (field n 13 7) (below fixed 0 7) (omega arith) (below n 0 3) (below n 3 5) (below n 8 5) (below n 13 7) (omega arith) in
    let q0 = split w 12 3 17 in
    let q3 = split w 15 5 12 in
    let q8 = split w 20 5 7 in
    let f : field w 12 20 ≡ field n 0 20 = rw (q0, q3, q8, m.m12, m.m15, m.m20, m.m25, s0, s3, s8) in
    let all = whole n 20 (omega arith) in
    record { bits = m.m0 ∙ k; is = same i _ _ _ _ m.m7 (omega arith) (omega arith) (ap pos (f ∙ all) ∙ c.0) }
back J i fixed w k t e =
    let n = Signed.word_of i.constant in
    let l11 = below n 11 1 in
    let l1 = below n 1 4 in
    let l5 = below n 5 6 in
    let l20 = below n 20 1 in
    let s12 = split n 12 3 5 in
    let s1 = split n 1 4 6 in
    let m = made w (field fixed 0 7) i.rd (field n 12 3) (field n 15 5) (field n 11 1 + field n 1 4 * 2) (field n 5 6 + field n 20 1 * 64) (below fixed 0 7) (omega arith) (below n 12 3) (below n 15 5) (omega arith) (omega arith) (omega arith) in
    let u = two_parts 1 (field w 20 1) (field w 21 4) (field n 11 1) (field n 1 4) (below w 20 1) l11 (sym (split w 20 1 4) ∙ m.m20) in
    let v = two_parts 6 (field w 25 6) (field w 31 1) (field n 5 6) (field n 20 1) (below w 25 6) l5 (sym (split w 25 6 1) ∙ m.m25) in
    let x = field w 31 1 * 2 ^ 20 + field w 12 8 * 2 ^ 12 + field w 20 1 * 2 ^ 11 + field w 21 10 * 2 in
    let f : x ≡ field n 0 21 = rw (split w 12 3 5, split w 21 4 6, m.m12, m.m15, u.0, u.1, v.0, v.1, ← s12, ← s1) (even_j n t.step) in
    record { bits = m.m0 ∙ k; is = same i _ _ _ _ m.m7 (omega arith) (omega arith) (constant_back 0x10_0000 1_048_575 21 range21 i.constant refl refl t.from (wider i.constant 1_048_574 1_048_575 (omega arith) t.to) x f) }
back Shift i fixed w k t e =
    let c = natural i.constant 31 t.from t.to in
    let n = Signed.word_of i.constant in
    let all = whole n 5 (omega arith) in
    let m = made w (field fixed 0 7) i.rd (field fixed 12 3) i.rs1 n (field fixed 25 7) (below fixed 0 7) (omega arith) (below fixed 12 3) (omega arith) (omega arith) (below fixed 25 7) (omega arith) in
    record { bits = rw (m.m0, m.m12, m.m25) k; is = same i _ _ _ _ m.m7 m.m15 (omega arith) (ap pos m.m20 ∙ c.0) }
back Whole i fixed w k t e =
    let c = natural i.constant 0 t.from t.to in
    let z : Signed.word_of i.constant ≡ 0 = omega arith in
    record { bits = omega arith; is = same i _ _ _ _ (omega arith) (omega arith) (omega arith) (ap pos (sym z) ∙ c.0) }
