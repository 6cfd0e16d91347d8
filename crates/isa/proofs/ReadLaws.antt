-- What the reader's answer says of the word.
use Prim.Native.Nat.{ℕ, zero, suc, ◌+◌, ◌≤◌, ◌<◌}
use mathlib.Core.Path.{◌≡◌, refl, sym, ap}
use mathlib.Core.Bool.{Bool, true, false}
use Rattle.std.specs.Prelude.{Option, Some, None}
use native.Mathlib.Omega.{arith}
use borrow.Author.Tests.{eqb-true}
use lib.Dec.{eqb}
use Rattle.word.proofs.FieldLaws.{below}
use Rattle.isa.specs.Listing as Listing
use Rattle.isa.specs.Listing.{Format, R, I, S, B, U, J, Shift, Whole, format_of, fixed_of}
use Rattle.isa.specs.Reads.{choose, Numbers, legal, illegal, numbers_of, fixed_part, operation_from, operation_of, found, fields_of, read_as, read_of}
use Rattle.isa.specs.declared.Instruction.{Instruction}

-- document 01's numbers settle the answer
pub numbers_injective : (a b : Option Instruction) → numbers_of a ≡ numbers_of b → a ≡ b
numbers_injective (Some i) (Some j) e = ap (λ (n : Numbers). Some n.fields) e
numbers_injective (Some i) None e = let z : ◌≡◌ {A = ℕ} 0 1 = ap (λ (n : Numbers). n.cause) e in absurd (omega arith)
numbers_injective None (Some j) e = let z : ◌≡◌ {A = ℕ} 1 0 = ap (λ (n : Numbers). n.cause) e in absurd (omega arith)
numbers_injective None None e = refl

-- the reading, by the operation found
pub read_none : (w : ℕ) → operation_of w ≡ 0 → read_of w ≡ illegal
unfolding read_of
read_none w e = rw e

as_some : (w operation : ℕ) → (operation ≡ 0 → ⊥) → read_as operation w ≡ legal (fields_of (format_of operation) operation w)
as_some w zero h = absurd (h refl)
as_some w (suc n) h = refl

pub read_some : (w operation : ℕ) → operation_of w ≡ operation → (operation ≡ 0 → ⊥) → read_of w ≡ legal (fields_of (format_of operation) operation w)
unfolding read_of
read_some w operation e h = rw e (as_some w operation h)

-- the search's answer, as a number
pub found_none : (n : ℕ) → None ≡ found n → n ≡ 0
found_none zero e = refl
found_none (suc n) e = cc

pub found_some : (n m : ℕ) → Some m ≡ found n → (n ≡ m) × (m ≡ 0 → ⊥)
found_some zero m e = (cc, λ z. cc)
found_some (suc n) m e = let s : m ≡ suc n = cc in (cc, λ z. omega arith)

pub some_found : (n : ℕ) → 1 ≤ n → Some n ≡ found n
some_found zero h = absurd (omega arith)
some_found (suc n) h = refl

-- what the search found
pub record Found (w first end operation : ℕ) : Type 0 where
  pub from : first ≤ operation
  pub to : operation < end
  pub bits : fixed_part (format_of operation) w ≡ fixed_of operation

found_at : (n first w operation rest : ℕ) (b : Bool) → eqb (fixed_part (format_of first) w) (fixed_of first) ≡ b
    → (rest ≡ operation → Found w (first + 1) (first + 1 + n) operation) → choose b first rest ≡ operation → Found w first (first + suc n) operation
found_at n first w operation rest true e later p =
    rw (sym p) (record { from = omega arith; to = omega arith; bits = eqb-true _ _ e })
found_at n first w operation rest false e later p = let f = later p in record { from = omega arith; to = omega arith; bits = f.bits }

pub search_found : (n first w operation : ℕ) → (operation ≡ 0 → ⊥) → operation_from n first w ≡ operation → Found w first (first + n) operation
unfolding operation_from
search_found zero first w operation h p = absurd (h (sym p))
search_found (suc n) first w operation h p =
    found_at n first w operation (operation_from n (first + 1) w) (eqb (fixed_part (format_of first) w) (fixed_of first)) refl (search_found n (first + 1) w operation h) p

-- what a legal word is
pub record LegalWord (w : ℕ) (i : Instruction) : Type 0 where
  pub operation : ℕ
  pub first : 1 ≤ operation
  pub last : operation ≤ Listing.last
  pub bits : fixed_part (format_of operation) w ≡ fixed_of operation
  pub is : i ≡ fields_of (format_of operation) operation w

legal_at : (w operation : ℕ) (i : Instruction) → operation_of w ≡ operation → read_as operation w ≡ legal i → LegalWord w i
unfolding operation_of
legal_at w zero i e p = let z : ◌≡◌ {A = ℕ} 1 0 = ap (λ (n : Numbers). n.cause) p in absurd (omega arith)
legal_at w (suc n) i e p =
    let f = search_found Listing.last 1 w (suc n) (λ z. omega arith) e in
    record { operation = suc n; first = omega arith; last = omega arith; bits = f.bits; is = sym (ap (λ (x : Numbers). x.fields) p) }

pub legal_word : (w : ℕ) (i : Instruction) → read_of w ≡ legal i → LegalWord w i
unfolding read_of
legal_word w i p = legal_at w (operation_of w) i refl p

pub operation_kept : (F : Format) (operation w : ℕ) → (fields_of F operation w).operation ≡ operation
unfolding fields_of
operation_kept R operation w = refl
operation_kept I operation w = refl
operation_kept S operation w = refl
operation_kept B operation w = refl
operation_kept U operation w = refl
operation_kept J operation w = refl
operation_kept Shift operation w = refl
operation_kept Whole operation w = refl

-- an instruction that was read names an operation and registers
pub record Small (i : Instruction) : Type 0 where
  pub first : 1 ≤ i.operation
  pub operation : i.operation ≤ Listing.last
  pub rd : i.rd < 32
  pub rs1 : i.rs1 < 32
  pub rs2 : i.rs2 < 32

small_at : (F : Format) (operation w : ℕ) → 1 ≤ operation → operation ≤ Listing.last → Small (fields_of F operation w)
unfolding fields_of
small_at R operation w l h = record { first = l; operation = h; rd = below w 7 5; rs1 = below w 15 5; rs2 = below w 20 5 }
small_at I operation w l h = record { first = l; operation = h; rd = below w 7 5; rs1 = below w 15 5; rs2 = omega arith }
small_at S operation w l h = record { first = l; operation = h; rd = omega arith; rs1 = below w 15 5; rs2 = below w 20 5 }
small_at B operation w l h = record { first = l; operation = h; rd = omega arith; rs1 = below w 15 5; rs2 = below w 20 5 }
small_at U operation w l h = record { first = l; operation = h; rd = below w 7 5; rs1 = omega arith; rs2 = omega arith }
small_at J operation w l h = record { first = l; operation = h; rd = below w 7 5; rs1 = omega arith; rs2 = omega arith }
small_at Shift operation w l h = record { first = l; operation = h; rd = below w 7 5; rs1 = below w 15 5; rs2 = omega arith }
small_at Whole operation w l h = record { first = l; operation = h; rd = omega arith; rs1 = omega arith; rs2 = omega arith }

pub legal_small : (w : ℕ) (i : Instruction) → read_of w ≡ legal i → Small i
legal_small w i p =
    let l = legal_word w i p in
    rw l.is (small_at (format_of l.operation) l.operation w l.first l.last)
