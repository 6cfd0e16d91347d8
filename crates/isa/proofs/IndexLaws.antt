-- The nine bits of a word, and what an operation's format fixes of them.
use Prim.Native.Nat.{ℕ, ◌+◌, ◌*◌, ◌/◌, ◌%◌, ◌^◌, ◌<◌}
use mathlib.Core.Path.{◌≡◌, refl, sym, ap, ◌∙◌}
use mathlib.Core.Bool.{true}
use native.Mathlib.Omega.{arith}
use borrow.Author.Tests.{eq-eqb}
use Rattle.word.specs.Field.{field}
use Rattle.word.proofs.FieldLaws.{below, split}
use Rattle.isa.specs.Listing.{Format, R, I, S, B, U, J, Shift, Whole, format_of, fixed_of}
use Rattle.isa.specs.Reads.{fixed_part}
use Rattle.isa.specs.Table.{index_of, bits_of, agrees}

pub index_most : (w : ℕ) → index_of w < 512
index_most w = omega (arith, below w 2 5, below w 12 3, below w 30 1)

-- bit 30 and bits 6–2 are parts of what formats fix
top : (x : ℕ) → field x 25 7 / 32 % 2 ≡ field x 30 1
top x = omega (arith, split x 25 5 2, split x 30 1 1, below x 25 5, below x 30 1, below x 31 1)

low : (x : ℕ) → field x 0 7 / 4 ≡ field x 2 5
low x = omega (arith, split x 0 2 5, below x 0 2)

-- the nine bits of bits 31–25, 14–12 and 6–0
nine_of : (a b c : ℕ) → a < 128 → b < 8 → c < 128 → index_of (a * 2 ^ 25 + b * 2 ^ 12 + c) ≡ a / 32 % 2 * 256 + b * 32 + c / 4
unfolding field
nine_of a b c ha hb hc = omega arith

long : (x : ℕ) → index_of (fixed_part R x) ≡ index_of x
unfolding fixed_part
long x = nine_of (field x 25 7) (field x 12 3) (field x 0 7) (below x 25 7) (below x 12 3) (below x 0 7) ∙ rw (top x, low x) refl

short : (x : ℕ) → index_of (fixed_part I x) ≡ field x 12 3 * 32 + field x 2 5
unfolding fixed_part
short x =
    let none : field x 12 3 * 2 ^ 12 + field x 0 7 ≡ 0 * 2 ^ 25 + field x 12 3 * 2 ^ 12 + field x 0 7 = omega arith in
    ap index_of none ∙ nine_of 0 (field x 12 3) (field x 0 7) (omega arith) (below x 12 3) (below x 0 7) ∙ omega (arith, low x)

opcode : (x : ℕ) → index_of (fixed_part U x) ≡ field x 2 5
unfolding fixed_part
opcode x =
    let none : field x 0 7 ≡ 0 * 2 ^ 25 + 0 * 2 ^ 12 + field x 0 7 = omega arith in
    ap index_of none ∙ nine_of 0 0 (field x 0 7) (omega arith) (omega arith) (below x 0 7) ∙ omega (arith, low x)

-- what a format fixes of the nine bits goes by these alone
module _ (x y : ℕ) (bit : field x 30 1 ≡ field y 30 1) (middle : field x 12 3 ≡ field y 12 3) (lower : field x 2 5 ≡ field y 2 5) where
  all_nine : index_of x ≡ index_of y
  all_nine = rw (bit, middle, lower) refl

  same : (F : Format) → index_of (fixed_part F x) ≡ index_of (fixed_part F y)
  unfolding fixed_part
  same R = long x ∙ all_nine ∙ sym (long y)
  same I = short x ∙ rw (middle, lower) refl ∙ sym (short y)
  same S = short x ∙ rw (middle, lower) refl ∙ sym (short y)
  same B = short x ∙ rw (middle, lower) refl ∙ sym (short y)
  same U = opcode x ∙ lower ∙ sym (opcode y)
  same J = opcode x ∙ lower ∙ sym (opcode y)
  same Shift = long x ∙ all_nine ∙ sym (long y)
  same Whole = all_nine

-- the nine bits at their places
placed : (a b c : ℕ) → a < 2 → b < 8 → c < 32
    → (field (a * 2 ^ 30 + b * 2 ^ 12 + c * 2 ^ 2) 30 1 ≡ a) × (field (a * 2 ^ 30 + b * 2 ^ 12 + c * 2 ^ 2) 12 3 ≡ b) × (field (a * 2 ^ 30 + b * 2 ^ 12 + c * 2 ^ 2) 2 5 ≡ c)
unfolding field
placed a b c ha hb hc = (omega arith, omega arith, omega arith)

digits : (a b c : ℕ) → a < 2 → b < 8 → c < 32 → bits_of (a * 256 + b * 32 + c) ≡ a * 2 ^ 30 + b * 2 ^ 12 + c * 2 ^ 2
digits a b c ha hb hc = omega arith

-- the nine bits of a word that has an operation's fixed bits agree with them
pub word_agrees : (operation w : ℕ) → fixed_part (format_of operation) w ≡ fixed_of operation → agrees operation (index_of w) ≡ true
unfolding agrees
word_agrees operation w m =
    let spread = digits (field w 30 1) (field w 12 3) (field w 2 5) (below w 30 1) (below w 12 3) (below w 2 5) in
    let p = placed (field w 30 1) (field w 12 3) (field w 2 5) (below w 30 1) (below w 12 3) (below w 2 5) in
    eq-eqb _ _ (ap (λ (x : ℕ). index_of (fixed_part (format_of operation) x)) spread ∙ same _ w p.0 p.1 p.2 (format_of operation) ∙ ap index_of m)
