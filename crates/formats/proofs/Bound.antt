-- The number that bounds a walk along the chain does not matter.
use Prim.Native.Nat.{ℕ, zero, suc, ◌+◌, ◌≤◌, ◌<◌}
use mathlib.Core.Path.{◌≡◌, refl, sym, ap, ◌∙◌}
use mathlib.Core.Bool.{Bool, true, false}
use mathlib.Core.List.{List, ◌∷◌}
use native.Mathlib.Nat.{suc-add}
use native.Mathlib.Omega.{arith}
use borrow.Author.Tests.{eqb-true, eqb-false, leb-true, leb-false}
use lib.Dec.{leb, eqb}
use lib.ListN.{length, get_or, set, length-set}
use lib.Seq.{get_or-set_other}
use Rattle.formats.specs.Schedule.{record_at, records}
use Rattle.formats.specs.Chain.{record_refusal, events_from}
use Rattle.formats.specs.declared.Record.{Record}
use Rattle.formats.proofs.Marks.{marked}
use Rattle.formats.proofs.ChainLaws.{ended, beyond, again, refused, goes_on}
use Rattle.formats.proofs.Events.{events_ended, events_on}
use Rattle.formats.proofs.Unset.{unset, unset_set, unset_some}

module _ (k : ℕ) (schedule : List ℕ) where
  -- n records suffice from here
  pub record Enough (n : ℕ) (marks : List Bool) (index : ℕ) : Type 0 where
    pub same : marked (n + k) schedule marks index ≡ marked n schedule marks index
    pub events : marked n schedule marks index ≡ 0 → events_from (n + k) schedule index ≡ events_from n schedule index
    pub fewer : marked n schedule marks index ≡ 0 → length (events_from n schedule index) < unset marks

  module _ (n : ℕ) (marks : List Bool) (index : ℕ) where
    -- a walk that ends here with a refusal
    at_refusal : (refusal : ℕ) → (refusal ≡ 0 → ⊥) → marked (suc (n + k)) schedule marks index ≡ refusal → marked (suc n) schedule marks index ≡ refusal → Enough (suc n) marks index
    at_refusal refusal h p q =
        record {
          same = rw (suc-add n k) (p ∙ sym q);
          events = λ e. absurd (h (sym q ∙ e));
          fewer = λ e. absurd (h (sym q ∙ e));
        }

    at_end : 0 < unset marks → index ≡ 0 → Enough (suc n) marks index
    at_end some z =
        record {
          same = rw (suc-add n k) (ended (n + k) schedule marks index z ∙ sym (ended n schedule marks index z));
          events = λ e. rw (suc-add n k) (events_ended (n + k) schedule index z ∙ sym (events_ended n schedule index z));
          fewer = λ e. rw (events_ended n schedule index z) some;
        }

    module _ (z : index ≡ 0 → ⊥) (l : index < records schedule) (m : get_or marks index false ≡ false) (room : length marks ≡ records schedule) where
      abbrev r : Record
      r = record_at schedule index

      on : record_refusal r ≡ 0 → (x : ℕ) → marked (suc x) schedule marks index ≡ marked x schedule (set marks index true) r.next
      on h x = goes_on x schedule marks index z l m r refl (record_refusal r) refl h

      ends : (record_refusal r ≡ 0 → ⊥) → (x : ℕ) → marked (suc x) schedule marks index ≡ record_refusal r
      ends h x = refused x schedule marks index z l m r refl (record_refusal r) refl h

      at_record : record_refusal r ≡ 0 → Enough n (set marks index true) r.next → Enough (suc n) marks index
      at_record h rest =
          let less = unset_set marks index (omega arith) m in
          record {
            same = rw (suc-add n k) (on h (n + k) ∙ rest.same ∙ sym (on h n));
            events = λ e. rw (suc-add n k)
                (events_on (n + k) schedule index z ∙ ap (λ (x : List Record). r ∷ x) (rest.events (sym (on h n) ∙ e)) ∙ sym (events_on n schedule index z));
            fewer = λ e. rw (events_on n schedule index z) (let few = rest.fewer (sym (on h n) ∙ e) in omega arith);
          }

      by_record : (b : Bool) → eqb (record_refusal r) 0 ≡ b → Enough n (set marks index true) r.next → Enough (suc n) marks index
      by_record true e rest = at_record (eqb-true (record_refusal r) 0 e) rest
      by_record false e rest =
          let h = eqb-false (record_refusal r) 0 e in
          at_refusal (record_refusal r) h (ends h (n + k)) (ends h n)

    module _ (room : length marks ≡ records schedule) (rest : (index ≡ 0 → ⊥) → index < records schedule → get_or marks index false ≡ false → Enough n (set marks index true) (record_at schedule index).next) where
      by_mark : (index ≡ 0 → ⊥) → index < records schedule → (b : Bool) → get_or marks index false ≡ b → Enough (suc n) marks index
      by_mark z l true m = at_refusal 23 (λ e. omega arith) (again (n + k) schedule marks index z l m) (again n schedule marks index z l m)
      by_mark z l false m = by_record z l m room (eqb (record_refusal (record_at schedule index)) 0) refl (rest z l m)

      by_place : (index ≡ 0 → ⊥) → (b : Bool) → leb (records schedule) index ≡ b → Enough (suc n) marks index
      by_place z true e =
          let l = leb-true (records schedule) index e in
          at_refusal 22 (λ e. omega arith) (beyond (n + k) schedule marks index z l) (beyond n schedule marks index z l)
      by_place z false e = by_mark z (leb-false (records schedule) index e) (get_or marks index false) refl

      by_index : 0 < unset marks → (b : Bool) → eqb index 0 ≡ b → Enough (suc n) marks index
      by_index some true e = at_end some (eqb-true index 0 e)
      by_index some false e = by_place (eqb-false index 0 e) (leb (records schedule) index) refl

  -- mark 0 is never set, so one is left over at the end
  pub enough : (n : ℕ) (marks : List Bool) (index : ℕ) → 0 < records schedule → length marks ≡ records schedule → get_or marks 0 false ≡ false → unset marks ≤ n → Enough n marks index
  enough zero marks index some room none u = absurd (let left = unset_some marks 0 (omega arith) none in omega arith)
  enough (suc n) marks index some room none u =
      by_index n marks index room
      (λ z l m. let less = unset_set marks index (omega arith) m in
      enough n (set marks index true) (record_at schedule index).next some (length-set marks index true ∙ room) (get_or-set_other marks index 0 true false (λ e. z (sym e)) ∙ none) (omega arith))
      (unset_some marks 0 (omega arith) none) (eqb index 0) refl
