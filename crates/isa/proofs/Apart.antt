-- No word has the fixed bits of two operations: so an operation whose fixed bits a word has is the word's.
use Prim.Native.Nat.{ℕ, zero, suc, ◌+◌, ◌*◌, ◌^◌, ◌≤◌, ◌<◌}
use mathlib.Core.Path.{◌≡◌, refl, sym, ap, subst, ◌∙◌}
use mathlib.Core.Bool.{Bool, true, false, not, ◌&&◌, ◌||◌}
use native.Mathlib.Omega.{arith}
use borrow.Author.Tests.{eq-eqb, eqb-true}
use lib.Dec.{T, eqb}
use Rattle.word.specs.Field.{field}
use Rattle.word.proofs.FieldLaws.{below}
use Rattle.laws.proofs.Bools.{impossible, both, where_both}
use Rattle.laws.proofs.Table.{every, at}
use mathlib.Core.List.{List, map}
use Rattle.isa.specs.Listing.{Format, R, I, S, B, U, J, Shift, Whole, Row, listing, last, format_of, fixed_of}
use Rattle.isa.specs.Reads.{choose, fixed_part, operation_from}
use Rattle.isa.proofs.FieldsBack.{fixed_clean}

-- which bits beside the opcode a format fixes: bits 14–12, bits 31–25, all
abbrev fixes_middle : Format → Bool
fixes_middle R = true
fixes_middle I = true
fixes_middle S = true
fixes_middle B = true
fixes_middle U = false
fixes_middle J = false
fixes_middle Shift = true
fixes_middle Whole = true

abbrev fixes_upper : Format → Bool
fixes_upper R = true
fixes_upper I = false
fixes_upper S = false
fixes_upper B = false
fixes_upper U = false
fixes_upper J = false
fixes_upper Shift = true
fixes_upper Whole = true

abbrev fixes_all : Format → Bool
fixes_all R = false
fixes_all I = false
fixes_all S = false
fixes_all B = false
fixes_all U = false
fixes_all J = false
fixes_all Shift = false
fixes_all Whole = true

-- a word has the fixed bits of its format
record Has (F : Format) (fixed w : ℕ) : Type 0 where
  opcode : field w 0 7 ≡ field fixed 0 7
  middle : fixes_middle F ≡ true → field w 12 3 ≡ field fixed 12 3
  upper : fixes_upper F ≡ true → field w 25 7 ≡ field fixed 25 7
  all : fixes_all F ≡ true → w ≡ fixed

three_parts : (a b c x y z : ℕ) → a < 128 → b < 8 → x < 128 → y < 8 → c * 2 ^ 25 + b * 2 ^ 12 + a ≡ z * 2 ^ 25 + y * 2 ^ 12 + x → (a ≡ x) × (b ≡ y) × (c ≡ z)
three_parts a b c x y z ha hb hx hy e = (omega arith, omega arith, omega arith)

long : (fixed w : ℕ) → fixed_part R w ≡ fixed_part R fixed → (field w 0 7 ≡ field fixed 0 7) × (field w 12 3 ≡ field fixed 12 3) × (field w 25 7 ≡ field fixed 25 7)
unfolding fixed_part
long fixed w e = three_parts _ _ _ _ _ _ (below w 0 7) (below w 12 3) (below fixed 0 7) (below fixed 12 3) e

short : (fixed w : ℕ) → fixed_part I w ≡ fixed_part I fixed → (field w 0 7 ≡ field fixed 0 7) × (field w 12 3 ≡ field fixed 12 3)
unfolding fixed_part
short fixed w e =
    let m = three_parts (field w 0 7) (field w 12 3) 0 (field fixed 0 7) (field fixed 12 3) 0 (below w 0 7) (below w 12 3) (below fixed 0 7) (below fixed 12 3) (omega arith) in
    (m.0, m.1)

has : (F : Format) (fixed w : ℕ) → fixed_part F fixed ≡ fixed → fixed_part F w ≡ fixed → Has F fixed w
unfolding fixed_part
has R fixed w c k = let m = long fixed w (k ∙ sym c) in record { opcode = m.0; middle = λ t. m.1; upper = λ t. m.2; all = impossible }
has I fixed w c k = let m = short fixed w (k ∙ sym c) in record { opcode = m.0; middle = λ t. m.1; upper = impossible; all = impossible }
has S fixed w c k = let m = short fixed w (k ∙ sym c) in record { opcode = m.0; middle = λ t. m.1; upper = impossible; all = impossible }
has B fixed w c k = let m = short fixed w (k ∙ sym c) in record { opcode = m.0; middle = λ t. m.1; upper = impossible; all = impossible }
has U fixed w c k = record { opcode = k ∙ sym c; middle = impossible; upper = impossible; all = impossible }
has J fixed w c k = record { opcode = k ∙ sym c; middle = impossible; upper = impossible; all = impossible }
has Shift fixed w c k = let m = long fixed w (k ∙ sym c) in record { opcode = m.0; middle = λ t. m.1; upper = λ t. m.2; all = impossible }
has Whole fixed w c k = record { opcode = ap (λ (x : ℕ). field x 0 7) k; middle = λ t. ap (λ (x : ℕ). field x 12 3) k; upper = λ t. ap (λ (x : ℕ). field x 25 7) k; all = λ t. k }

-- the fixed bits of two operations agree where both fix them
abbrev agree : ℕ → ℕ → Bool
agree a b =
    eqb (field (fixed_of a) 0 7) (field (fixed_of b) 0 7)
    && (not (fixes_middle (format_of a) && fixes_middle (format_of b)) || eqb (field (fixed_of a) 12 3) (field (fixed_of b) 12 3))
    && (not (fixes_upper (format_of a) && fixes_upper (format_of b)) || eqb (field (fixed_of a) 25 7) (field (fixed_of b) 25 7))
    && (not (fixes_all (format_of a) && fixes_all (format_of b)) || eqb (fixed_of a) (fixed_of b))

abbrev differ : ℕ → ℕ → ℕ → Bool
differ a b fixed = eqb a b || not (agree a b)

-- the listing's fixed bits
abbrev pub fixed_bits : List ℕ
fixed_bits = map (λ (r : Row). r.fixed) listing

abbrev all_differ : ℕ → ℕ → Bool
all_differ a fixed = every (differ a) 0 fixed_bits

-- the computed test: no two operations' fixed bits agree
differ_at : (a b : ℕ) → a ≤ last → b ≤ last → T (eqb a b || not (agree a b))
unfolding field
differ_at a b h g = at (differ a) fixed_bits (at all_differ fixed_bits tt a (omega arith)) b (omega arith)

module _ (a b w : ℕ) (ha : a ≤ last) (hb : b ≤ last) (ma : fixed_part (format_of a) w ≡ fixed_of a) (mb : fixed_part (format_of b) w ≡ fixed_of b) where
  agrees : agree a b ≡ true
  agrees =
      let p = has (format_of a) (fixed_of a) w (fixed_clean a) ma in
      let q = has (format_of b) (fixed_of b) w (fixed_clean b) mb in
      both (both (both (eq-eqb _ _ (sym p.opcode ∙ q.opcode))
      (where_both (fixes_middle (format_of a)) (fixes_middle (format_of b)) (eqb (field (fixed_of a) 12 3) (field (fixed_of b) 12 3)) (λ s t. eq-eqb _ _ (sym (p.middle s) ∙ q.middle t))))
      (where_both (fixes_upper (format_of a)) (fixes_upper (format_of b)) (eqb (field (fixed_of a) 25 7) (field (fixed_of b) 25 7)) (λ s t. eq-eqb _ _ (sym (p.upper s) ∙ q.upper t))))
      (where_both (fixes_all (format_of a)) (fixes_all (format_of b)) (eqb (fixed_of a) (fixed_of b)) (λ s t. eq-eqb _ _ (sym (p.all s) ∙ q.all t)))

  one : (e agreed : Bool) → agreed ≡ true → T (e || not agreed) → e ≡ true
  one true agreed h t = refl
  one false true h t = absurd t
  one false false h t = impossible h

  same_operation : a ≡ b
  same_operation = eqb-true a b (one (eqb a b) (agree a b) agrees (differ_at a b ha hb))

-- the first in the listing whose fixed bits the word has is this one
module _ (operation w : ℕ) (h : operation ≤ last) (m : fixed_part (format_of operation) w ≡ fixed_of operation) where
  reach_at : (n first : ℕ) (b : Bool) → eqb (fixed_part (format_of first) w) (fixed_of first) ≡ b → first ≤ operation → operation < first + suc n
      → (first + 1 ≤ operation → operation < first + 1 + n → operation_from n (first + 1) w ≡ operation)
      → choose b first (operation_from n (first + 1) w) ≡ operation
  reach_at n first true e l g later = same_operation first operation w (omega arith) h (eqb-true _ _ e) m
  reach_at n first false e l g later =
      let other : first ≡ operation → ⊥ = λ p. impossible (sym e ∙ eq-eqb _ _ (subst (λ (x : ℕ). fixed_part (format_of x) w ≡ fixed_of x) (sym p) m)) in
      later (omega arith) (omega arith)

  pub reach : (n first : ℕ) → first ≤ operation → operation < first + n → operation_from n first w ≡ operation
  unfolding operation_from
  reach zero first l g = absurd (omega arith)
  reach (suc n) first l g = reach_at n first (eqb (fixed_part (format_of first) w) (fixed_of first)) refl l g (reach n (first + 1))
