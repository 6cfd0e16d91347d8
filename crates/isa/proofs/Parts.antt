-- The smallest parts of a word, of which the fields of all formats are made.
use Prim.Native.Nat.{ℕ, ◌+◌, ◌*◌, ◌^◌, ◌<◌}
use mathlib.Core.Path.{◌≡◌}
use native.Mathlib.Omega.{arith}
use Rattle.word.specs.Field.{field}
use Rattle.word.proofs.FieldLaws.{below, split, whole}

pub record Parts (w : ℕ) : Type 0 where
  pub b0 : field w 0 7 < 128
  pub b7 : field w 7 1 < 2
  pub b8 : field w 8 4 < 16
  pub b12 : field w 12 3 < 8
  pub b15 : field w 15 5 < 32
  pub b20 : field w 20 1 < 2
  pub b21 : field w 21 4 < 16
  pub b25 : field w 25 6 < 64
  pub b31 : field w 31 1 < 2
  pub word : w ≡ field w 0 7 + field w 7 1 * 2 ^ 7 + field w 8 4 * 2 ^ 8 + field w 12 3 * 2 ^ 12 + field w 15 5 * 2 ^ 15 + field w 20 1 * 2 ^ 20 + field w 21 4 * 2 ^ 21 + field w 25 6 * 2 ^ 25 + field w 31 1 * 2 ^ 31
  pub rd : field w 7 5 ≡ field w 7 1 + field w 8 4 * 2
  pub rs2 : field w 20 5 ≡ field w 20 1 + field w 21 4 * 2
  pub upper : field w 25 7 ≡ field w 25 6 + field w 31 1 * 64
  pub i12 : field w 20 12 ≡ field w 20 1 + field w 21 4 * 2 + field w 25 6 * 32 + field w 31 1 * 2048
  pub u20 : field w 12 20 ≡ field w 12 3 + field w 15 5 * 8 + field w 20 1 * 256 + field w 21 4 * 512 + field w 25 6 * 2 ^ 13 + field w 31 1 * 2 ^ 19
  pub j8 : field w 12 8 ≡ field w 12 3 + field w 15 5 * 8
  pub j10 : field w 21 10 ≡ field w 21 4 + field w 25 6 * 16

pub parts : (w : ℕ) → w < 2 ^ 32 → Parts w
parts w h =
    let all = whole w 32 h in
    let s0 = split w 0 7 25 in
    let s7 = split w 7 1 24 in
    let s8 = split w 8 4 20 in
    let s12 = split w 12 3 17 in
    let s15 = split w 15 5 12 in
    let s20 = split w 20 1 11 in
    let s21 = split w 21 4 7 in
    let s25 = split w 25 6 1 in
    record {
      b0 = below w 0 7;
      b7 = below w 7 1;
      b8 = below w 8 4;
      b12 = below w 12 3;
      b15 = below w 15 5;
      b20 = below w 20 1;
      b21 = below w 21 4;
      b25 = below w 25 6;
      b31 = below w 31 1;
      word = omega arith;
      rd = split w 7 1 4;
      rs2 = split w 20 1 4;
      upper = s25;
      i12 = omega arith;
      u20 = omega arith;
      j8 = split w 12 3 5;
      j10 = split w 21 4 6;
    }
