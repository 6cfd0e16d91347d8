-- The encoder's test is document 01's ranges; what was read lies in them.
use Prim.Native.Nat.{ℕ, suc, ◌+◌, ◌*◌, ◌/◌, ◌%◌, ◌^◌, ◌≤◌, ◌<◌}
use mathlib.Core.Path.{◌≡◌, refl, sym, ap, ◌∙◌}
use mathlib.Core.Bool.{true}
use native.Mathlib.Nat.{mod-one}
use native.Mathlib.Omega.{arith}
use borrow.Author.Tests.{le-leb, leb-true}
use lib.IntN.{ℤ, pos, negsuc, ◌+ℤ◌}
use lib.Signed.{le_z, le_z_yes}
use Rattle.word.specs.Field.{field}
use Rattle.word.specs.Signed as Signed
use Rattle.word.proofs.FieldLaws.{below}
use Rattle.word.proofs.ExtendLaws.{extend_low, extend_from, extend_to}
use Rattle.laws.proofs.Bools.{holds, true_of}
use Rattle.isa.specs.Listing.{Format, R, I, S, B, U, J, Shift, Whole, format_of}
use Rattle.isa.specs.Reads.{legal, constant_of, fields_of, read_of}
use Rattle.isa.specs.Encodes.{limits_of}
use Rattle.isa.specs.Statement.{Between, Even, Ranges, InRange}
use Rattle.isa.specs.declared.Instruction.{Instruction}
use Rattle.isa.proofs.Accepted.{Within, Accepted}
use Rattle.isa.proofs.FieldsBack.{natural}
use Rattle.isa.proofs.ReadLaws.{legal_word, operation_kept}
use Rattle.isa.proofs.WordBack.{range13, range21}

between : (low high c : ℤ) → le_z low c ≡ true → le_z c high ≡ true → Between low high c
between low high c l h = record { from = le_z_yes (holds _ l); to = le_z_yes (holds _ h) }

from_of : (low high c : ℤ) → Between low high c → le_z low c ≡ true
from_of low high c b = true_of _ b.from.le

to_of : (low high c : ℤ) → Between low high c → le_z c high ≡ true
to_of low high c b = true_of _ b.to.le

-- only 0 lies from 0 to 0
zero_only : (c : ℤ) → le_z (pos 0) c ≡ true → le_z c (pos 0) ≡ true → c ≡ pos 0
zero_only c l h = let n = natural c 0 l h in let z : Signed.word_of c ≡ 0 = omega arith in sym n.0 ∙ ap pos z

-- a number is even where its word is
even_of : (m : ℕ) (c : ℤ) → m < 2 ^ 31 → le_z (negsuc m) c ≡ true → Signed.word_of c % 2 ≡ 0 → Even c
even_of m (pos n) h l e = let d : n ≡ n / 2 + n / 2 = omega arith in record { half = pos (n / 2); twice = ap pos d }
even_of m (negsuc n) h l e =
    let small = leb-true n m l in
    let d : n ≡ suc (n / 2 + n / 2) = omega arith in
    record { half = negsuc (n / 2); twice = ap negsuc d }

twice_even : (half : ℤ) → Signed.word_of (half +ℤ half) % 2 ≡ 0
twice_even (pos n) = omega arith
twice_even (negsuc n) = omega arith

even_word : (c : ℤ) → Even c → Signed.word_of c % 2 ≡ 0
even_word c e = rw e.twice (twice_even e.half)

ranges_of : (F : Format) (i : Instruction) → Within (limits_of F) i → Ranges F i
ranges_of R i t = record { rd = t.rd; rs1 = t.rs1; rs2 = t.rs2; constant = zero_only _ t.from t.to }
ranges_of I i t = record { rd = t.rd; rs1 = t.rs1; rs2 = omega arith; constant = between _ _ _ t.from t.to }
ranges_of S i t = record { rd = omega arith; rs1 = t.rs1; rs2 = t.rs2; constant = between _ _ _ t.from t.to }
ranges_of B i t = record { rd = omega arith; rs1 = t.rs1; rs2 = t.rs2; constant = (between _ _ _ t.from t.to, even_of 4_095 _ (omega arith) t.from t.step) }
ranges_of U i t = record { rd = t.rd; rs1 = omega arith; rs2 = omega arith; constant = between _ _ _ t.from t.to }
ranges_of J i t = record { rd = t.rd; rs1 = omega arith; rs2 = omega arith; constant = (between _ _ _ t.from t.to, even_of 1_048_575 _ (omega arith) t.from t.step) }
ranges_of Shift i t = record { rd = t.rd; rs1 = t.rs1; rs2 = omega arith; constant = between _ _ _ t.from t.to }
ranges_of Whole i t = record { rd = omega arith; rs1 = omega arith; rs2 = omega arith; constant = zero_only _ t.from t.to }

within_of : (F : Format) (i : Instruction) → Ranges F i → Within (limits_of F) i
within_of R i f = record { rd = f.rd; rs1 = f.rs1; rs2 = f.rs2; from = rw f.constant; to = rw f.constant; step = mod-one _ }
within_of I i f = record { rd = f.rd; rs1 = f.rs1; rs2 = omega (arith, f.rs2); from = from_of _ _ _ f.constant; to = to_of _ _ _ f.constant; step = mod-one _ }
within_of S i f = record { rd = omega (arith, f.rd); rs1 = f.rs1; rs2 = f.rs2; from = from_of _ _ _ f.constant; to = to_of _ _ _ f.constant; step = mod-one _ }
within_of B i f = record { rd = omega (arith, f.rd); rs1 = f.rs1; rs2 = f.rs2; from = from_of _ _ _ f.constant.0; to = to_of _ _ _ f.constant.0; step = even_word _ f.constant.1 }
within_of U i f = record { rd = f.rd; rs1 = omega (arith, f.rs1); rs2 = omega (arith, f.rs2); from = from_of _ _ _ f.constant; to = to_of _ _ _ f.constant; step = mod-one _ }
within_of J i f = record { rd = f.rd; rs1 = omega (arith, f.rs1); rs2 = omega (arith, f.rs2); from = from_of _ _ _ f.constant.0; to = to_of _ _ _ f.constant.0; step = even_word _ f.constant.1 }
within_of Shift i f = record { rd = f.rd; rs1 = f.rs1; rs2 = omega (arith, f.rs2); from = from_of _ _ _ f.constant; to = to_of _ _ _ f.constant; step = mod-one _ }
within_of Whole i f = record { rd = omega (arith, f.rd); rs1 = omega (arith, f.rs1); rs2 = omega (arith, f.rs2); from = rw f.constant; to = rw f.constant; step = mod-one _ }

pub in_range_of : (i : Instruction) → Accepted i → InRange i
in_range_of i a = record { first = a.first; last = a.last; ranges = ranges_of (format_of i.operation) i a.fields }

pub accepted_of : (i : Instruction) → InRange i → Accepted i
accepted_of i r = record { first = r.first; last = r.last; fields = within_of (format_of i.operation) i r.ranges }

-- the fields of a word lie within its format's limits
five : (w low : ℕ) → field w low 5 ≤ 31
five w low = let p = below w low 5 in omega arith

within_read : (F : Format) (operation w : ℕ) → Within (limits_of F) (fields_of F operation w)
unfolding fields_of constant_of
within_read R operation w = record { rd = five w 7; rs1 = five w 15; rs2 = five w 20; from = refl; to = refl; step = refl }
within_read I operation w =
    let n = field w 20 12 in
    record { rd = five w 7; rs1 = five w 15; rs2 = omega arith; from = extend_from 0x800 n 2_047 (below w 20 12) refl; to = extend_to 0x800 n 2_047 (λ q. omega arith); step = mod-one _ }
within_read S operation w =
    let n = field w 25 7 * 2 ^ 5 + field w 7 5 in
    let p = below w 25 7 in
    let q = below w 7 5 in
    record { rd = omega arith; rs1 = five w 15; rs2 = five w 20; from = extend_from 0x800 n 2_047 (omega arith) refl; to = extend_to 0x800 n 2_047 (λ q. omega arith); step = mod-one _ }
within_read B operation w =
    let n = field w 31 1 * 2 ^ 12 + field w 7 1 * 2 ^ 11 + field w 25 6 * 2 ^ 5 + field w 8 4 * 2 in
    let p31 = below w 31 1 in
    let p7 = below w 7 1 in
    let p25 = below w 25 6 in
    let p8 = below w 8 4 in
    let m : n < 0x1000 + 0x1000 = omega arith in
    let e = extend_low 0x1000 range13 n m in
    record { rd = omega arith; rs1 = five w 15; rs2 = five w 20; from = extend_from 0x1000 n 4_095 m refl; to = extend_to 0x1000 n 4_094 (λ q. omega arith); step = omega arith }
within_read U operation w =
    let n = below w 12 20 in
    record { rd = five w 7; rs1 = omega arith; rs2 = omega arith; from = le-leb 0 (field w 12 20) (omega arith); to = le-leb (field w 12 20) 1_048_575 (omega arith); step = mod-one _ }
within_read J operation w =
    let n = field w 31 1 * 2 ^ 20 + field w 12 8 * 2 ^ 12 + field w 20 1 * 2 ^ 11 + field w 21 10 * 2 in
    let p31 = below w 31 1 in
    let p12 = below w 12 8 in
    let p20 = below w 20 1 in
    let p21 = below w 21 10 in
    let m : n < 0x10_0000 + 0x10_0000 = omega arith in
    let e = extend_low 0x10_0000 range21 n m in
    record { rd = five w 7; rs1 = omega arith; rs2 = omega arith; from = extend_from 0x10_0000 n 1_048_575 m refl; to = extend_to 0x10_0000 n 1_048_574 (λ q. omega arith); step = omega arith }
within_read Shift operation w =
    let n = below w 20 5 in
    record { rd = five w 7; rs1 = five w 15; rs2 = omega arith; from = le-leb 0 (field w 20 5) (omega arith); to = le-leb (field w 20 5) 31 (omega arith); step = mod-one _ }
within_read Whole operation w = record { rd = omega arith; rs1 = omega arith; rs2 = omega arith; from = refl; to = refl; step = refl }

pub read_accepted : (w : ℕ) (i : Instruction) → read_of w ≡ legal i → Accepted i
unfolding fields_of
read_accepted w i p =
    let l = legal_word w i p in
    let F = format_of l.operation in
    let o = operation_kept F l.operation w in
    rw l.is (record { first = rw o l.first; last = rw o l.last; fields = rw o (within_read F l.operation w) })
