-- The statement on the reader and the encoder.
use Prim.Native.Nat.{ℕ, ◌^◌, ◌<◌}
use mathlib.Core.Path.{◌≡◌, refl, sym, ap, subst, ◌∙◌}
use mathlib.Core.Bool.{Bool, true, false}
use mathlib.Core.Logic.{◌⊎◌, inl, inr}
use native.Mathlib.Omega.{arith}
use Rattle.isa.specs.Listing.{last, format_of, fixed_of}
use Rattle.isa.specs.Reads.{choose, legal, operation_of, read_of}
use Rattle.isa.specs.Encodes.{accepted, word_of, Encoded, written, refused, encoded_of}
use Rattle.isa.specs.Statement.{Statement}
use Rattle.isa.specs.declared.Instruction.{Instruction}
use Rattle.isa.proofs.Accepted.{Accepted, accepted_says, accepted_holds, answer_written, word_fits}
use Rattle.isa.proofs.Apart.{reach}
use Rattle.isa.proofs.FieldsBack.{back, fixed_clean}
use Rattle.isa.proofs.Ranges.{in_range_of, accepted_of, read_accepted}
use Rattle.isa.proofs.ReadLaws.{read_some}
use Rattle.isa.proofs.WordBack.{read_word}

-- an accepted instruction's word reads as that instruction
pub word_read : (i : Instruction) → Accepted i → read_of (word_of i) ≡ legal i
unfolding word_of operation_of
word_read i a =
    let operation = i.operation in
    let F = format_of operation in
    let b = back F i (fixed_of operation) (word_of i) (fixed_clean operation) a.fields refl in
    let o : operation_of (word_of i) ≡ operation = reach operation (word_of i) a.last b.bits last 1 a.first (omega arith) in
    read_some (word_of i) operation o (λ z. omega (arith, a.first)) ∙ ap legal b.is

word_back : (w : ℕ) (i : Instruction) → w < 2 ^ 32 → read_of w ≡ legal i → encoded_of i ≡ written w
word_back w i h p = sym (answer_written i (accepted_holds i (read_accepted w i p))) ∙ ap written (read_word w i h p)

-- an answer without refusal comes from an accepted instruction
zero_accepted : (i : Instruction) → (encoded_of i).refusal ≡ 0 → Accepted i
unfolding encoded_of
zero_accepted i e = accepted_says i (at (accepted i) e)
  where
    at : (b : Bool) → (choose b (written (word_of i)) refused).refusal ≡ 0 → b ≡ true
    at true e = refl
    at false e = absurd (omega arith)

fields_back : (i : Instruction) (w : ℕ) → encoded_of i ≡ written w → (read_of w ≡ legal i) × (w < 2 ^ 32)
fields_back i w e =
    let a = zero_accepted i (ap (λ (x : Encoded). x.refusal) e) in
    let same : word_of i ≡ w = ap (λ (x : Encoded). x.word) (answer_written i (accepted_holds i a) ∙ e) in
    (subst (λ (n : ℕ). read_of n ≡ legal i) same (word_read i a), subst (λ (n : ℕ). n < 2 ^ 32) same (word_fits i a))

else_refused : (i : Instruction) → ((encoded_of i).refusal ≡ 0) ⊎ (encoded_of i ≡ refused)
unfolding encoded_of
else_refused i = at (accepted i)
  where
    at : (b : Bool) → ((choose b (written (word_of i)) refused).refusal ≡ 0) ⊎ (choose b (written (word_of i)) refused ≡ refused)
    at true = inl refl
    at false = inr refl

pub statement : Statement
statement =
    record {
      word_back = word_back;
      read_taken = λ w i h p. in_range_of i (read_accepted w i p);
      fields_back = fields_back;
      taken = λ i r. sym (ap (λ (x : Encoded). x.refusal) (answer_written i (accepted_holds i (accepted_of i r))));
      only_taken = λ i e. in_range_of i (zero_accepted i e);
      else_refused = else_refused;
    }
