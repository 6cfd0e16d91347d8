-- The table's number for a word, with the checks of the remaining bits, is the word's operation.
use Prim.Native.Nat.{ℕ, zero, suc, ◌+◌, ◌≤◌, ◌<◌}
use mathlib.Core.Path.{◌≡◌, refl, sym, subst, ◌∙◌}
use mathlib.Core.Bool.{Bool, true, false, not, ◌&&◌, ◌||◌}
use mathlib.Core.Logic.{◌⊎◌, inl, inr}
use native.Mathlib.Omega.{arith}
use borrow.Author.Tests.{eq-eqb, ne_eqb, eqb-true, leb-true}
use lib.Dec.{T, eqb, leb}
use lib.ListN.{get_or}
use Rattle.std.specs.Prelude.{Some, None}
use Rattle.word.specs.Field.{field}
use Rattle.laws.proofs.Bools.{impossible, either, implied, holds, and_left, and_right, true_of}
use Rattle.laws.proofs.Table.{every, at}
use Rattle.isa.specs.Listing.{last, format_of, fixed_of}
use Rattle.isa.specs.Reads.{fixed_part, found, operation_of}
use Rattle.isa.specs.Table.{index_of, agrees, entry_from, entry_of}
use Rattle.isa.specs.declared.listing.TheConstants.{ECALL, EBREAK}
use Rattle.isa.specs.declared.table.TheConstants.{OPERATIONS}
use Rattle.isa.proofs.Apart.{fixed_bits, reach}
use Rattle.isa.proofs.IndexLaws.{index_most, word_agrees}
use Rattle.isa.proofs.ReadLaws.{Found, some_found, search_found}

-- an operation that agrees with an entry's index is the entry's, or EBREAK where that is ECALL
abbrev stands : ℕ → ℕ → Bool
stands entry operation = eqb operation 0 || eqb operation entry || eqb entry ECALL && eqb operation EBREAK

abbrev covered : ℕ → ℕ → ℕ → ℕ → Bool
covered index entry operation fixed = not (agrees operation index) || stands entry operation

-- the computed test: each entry is the formula's, is in the listing, and stands for all operations that agree with its index
abbrev right : ℕ → ℕ → Bool
right index entry = eqb entry (entry_of index) && (leb entry last && every (covered index entry) 0 fixed_bits)

all_right : T (every right 0 OPERATIONS)
unfolding agrees entry_from entry_of fixed_part field
all_right = tt

module _ (index : ℕ) (h : index < 512) where
  abbrev entry : ℕ
  entry = get_or OPERATIONS index 0

  right_at : right index entry ≡ true
  right_at = true_of _ (at right OPERATIONS all_right index h)

  pub entry_right : entry ≡ entry_of index
  entry_right = eqb-true _ _ (and_left _ _ right_at)

  entry_listed : entry ≤ last
  entry_listed = leb-true entry last (and_left _ _ (and_right (eqb entry (entry_of index)) _ right_at))

  entry_covers : (operation : ℕ) → operation ≤ last → covered index entry operation (fixed_of operation) ≡ true
  entry_covers operation g =
      let all = every (covered index entry) 0 fixed_bits in
      let t : all ≡ true = and_right (leb entry last) all (and_right (eqb entry (entry_of index)) (leb entry last && all) right_at) in
      true_of _ (at (covered index entry) fixed_bits (holds all t) operation (omega arith))

-- whether the word has the operation's fixed bits
abbrev bits : ℕ → ℕ → Bool
bits operation w = eqb (fixed_part (format_of operation) w) (fixed_of operation)

stands_for : (e operation : ℕ) → 1 ≤ operation → stands e operation ≡ true → (operation ≡ e) ⊎ ((e ≡ ECALL) × (operation ≡ EBREAK))
stands_for e operation l t =
    elim (either (eqb operation 0 || eqb operation e) (eqb e ECALL && eqb operation EBREAK) t) [
      | inl p ↦ elim (either (eqb operation 0) (eqb operation e) p) [ inl z ↦ absurd (omega (arith, eqb-true operation 0 z)) | inr q ↦ inl (eqb-true operation e q) ]
      | inr p ↦ inr (eqb-true e ECALL (and_left (eqb e ECALL) (eqb operation EBREAK) p), eqb-true operation EBREAK (and_right (eqb e ECALL) (eqb operation EBREAK) p))
    ]

-- an operation whose fixed bits the word has is the word's
is_found : (operation w : ℕ) → 1 ≤ operation → operation ≤ last → bits operation w ≡ true → Some operation ≡ found (operation_of w)
unfolding operation_of
is_found operation w l h t = rw (reach operation w h (eqb-true _ _ t) last 1 l (omega arith)) (some_found operation l)

-- the word's operation is in the listing, and the word has its fixed bits
word_found : (w operation : ℕ) → (operation ≡ 0 → ⊥) → operation_of w ≡ operation → Found w 1 (1 + last) operation
unfolding operation_of
word_found w operation z e = search_found last 1 w operation z e

-- the entry of a word, and what the comparisons of find say of it
module _ (w e : ℕ) (k : e ≡ entry_of (index_of w)) where
  is_entry : get_or OPERATIONS (index_of w) 0 ≡ e
  is_entry = entry_right (index_of w) (index_most w) ∙ sym k

  pub entry_most : e ≤ last
  entry_most = rw (← is_entry) (entry_listed (index_of w) (index_most w))

  -- a word's operation is its entry, or EBREAK
  covers : (operation : ℕ) → 1 ≤ operation → operation ≤ last → fixed_part (format_of operation) w ≡ fixed_of operation → (operation ≡ e) ⊎ ((e ≡ ECALL) × (operation ≡ EBREAK))
  covers operation l h m =
      let i = index_of w in
      let c : covered i e operation (fixed_of operation) ≡ true = subst (λ (x : ℕ). covered i x operation (fixed_of operation) ≡ true) is_entry (entry_covers i (index_most w) operation h) in
      stands_for e operation l (implied (agrees operation i) (stands e operation) (word_agrees operation w m) c)

  module _ (own ebreak : Bool) (p : own ≡ bits e w) (q : ebreak ≡ bits EBREAK w) where
    pub none_found : not (eqb e 0) && own ≡ false → eqb e ECALL && ebreak ≡ false → None ≡ found (operation_of w)
    none_found s t = none_at (operation_of w) refl
      where
        bits_of : (operation x : ℕ) → fixed_part (format_of operation) w ≡ fixed_of operation → operation ≡ x → bits x w ≡ true
        bits_of operation x m i = eq-eqb _ _ (subst (λ (y : ℕ). fixed_part (format_of y) w ≡ fixed_of y) i m)

        none_by : (operation : ℕ) → 1 ≤ operation → fixed_part (format_of operation) w ≡ fixed_of operation → (operation ≡ e) ⊎ ((e ≡ ECALL) × (operation ≡ EBREAK)) → ⊥
        none_by operation l m (inl i) = impossible (sym s ∙ rw (ne_eqb e 0 (λ z. omega (arith, i, z)), p ∙ bits_of operation e m i))
        none_by operation l m (inr i) = impossible (sym t ∙ rw (eq-eqb e ECALL i.0, q ∙ bits_of operation EBREAK m i.1))

        none_at : (operation : ℕ) → operation_of w ≡ operation → None ≡ found operation
        none_at zero f = refl
        none_at (suc n) f =
            let g = word_found w (suc n) (λ z. omega (arith, z)) f in
            absurd (none_by (suc n) g.from g.bits (covers (suc n) g.from (omega (arith, g.to)) g.bits))

  pub entry_found : (own : Bool) → own ≡ bits e w → not (eqb e 0) && own ≡ true → Some e ≡ found (operation_of w)
  entry_found own p t = is_found e w (some e (and_left (not (eqb e 0)) own t)) entry_most (sym p ∙ and_right (not (eqb e 0)) own t)
    where
      some : (n : ℕ) → not (eqb n 0) ≡ true → 1 ≤ n
      some zero z = impossible z
      some (suc n) z = omega arith

  pub ebreak_found : (ebreak : Bool) → ebreak ≡ bits EBREAK w → eqb e ECALL && ebreak ≡ true → Some EBREAK ≡ found (operation_of w)
  ebreak_found ebreak q t = is_found EBREAK w (omega arith) (omega arith) (sym q ∙ and_right (eqb e ECALL) ebreak t)
