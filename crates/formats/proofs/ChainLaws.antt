-- The walk along the chain, one record after the other, and the refusals of a record.
use Prim.Native.Nat.{ℕ, zero, suc, ◌+◌, ◌-◌, ◌≤◌, ◌<◌}
use mathlib.Core.Path.{◌≡◌, refl, ◌∙◌}
use mathlib.Core.Bool.{Bool, true, false, not, ◌||◌}
use mathlib.Core.List.{List, [], ◌∷◌}
use native.Mathlib.Omega.{arith}
use borrow.Author.Tests.{eq-eqb, ne_eqb, le-leb, lt-leb}
use lib.Dec.{eqb, eqb-suc-zero}
use lib.ListN.{get_or, set}
use Rattle.reference.specs.Step.{first}
use Rattle.formats.specs.Schedule.{record_at, records}
use Rattle.formats.specs.Kind.{number_of_kind}
use Rattle.formats.specs.declared.kind.Kind.{Kind}
use Rattle.formats.specs.declared.kind.Kind.TheVariants.{Decode, Issue, Complete, Commit}
use Rattle.formats.specs.Chain.{unknown_kind, unwanted, record_refusal}
use Rattle.formats.specs.declared.Record.{Record}
use Rattle.formats.proofs.Marks.{marked}

or_false : (b : Bool) → b || false ≡ b
or_false true = refl
or_false false = refl

module _ (r : Record) where
  pub kind_refused : unknown_kind r ≡ true → 24 ≡ record_refusal r
  unfolding record_refusal first
  kind_refused k = rw k

  -- by the kind, the field that is not zero
  abbrev pub unwanted_in : Kind → Bool
  unwanted_in Decode = not (eqb r.position 0)
  unwanted_in Issue = not (eqb r.guess 0)
  unwanted_in Complete = not (eqb r.guess 0)
  unwanted_in Commit = not (eqb r.position 0) || not (eqb r.guess 0)

  kind_known : (kind : Kind) → number_of_kind kind ≡ r.kind → unknown_kind r ≡ false
  kind_known Decode e = rw (← e)
  kind_known Issue e = rw (← e)
  kind_known Complete e = rw (← e)
  kind_known Commit e = rw (← e)

  unwanted_by : (kind : Kind) → number_of_kind kind ≡ r.kind → unwanted r ≡ unwanted_in kind
  unwanted_by Decode e = rw (← e) (or_false (not (eqb r.position 0)))
  unwanted_by Issue e = rw (← e)
  unwanted_by Complete e = rw (← e)
  unwanted_by Commit e = rw (← e)

  module _ (kind : Kind) (e : number_of_kind kind ≡ r.kind) where
    pub field_refused : unwanted_in kind ≡ true → 25 ≡ record_refusal r
    unfolding record_refusal first
    field_refused u = rw (kind_known kind e, unwanted_by kind e ∙ u)

    pub record_accepted : unwanted_in kind ≡ false → 0 ≡ record_refusal r
    unfolding record_refusal first
    record_accepted u = rw (kind_known kind e, unwanted_by kind e ∙ u)

first_last : (x : ℕ) → first (x ∷ []) ≡ x
unfolding first
first_last zero = refl
first_last (suc x) = rw (eqb-suc-zero x)

-- one record, and at most n after it
module _ (n : ℕ) (schedule : List ℕ) (marks : List Bool) (index : ℕ) where
  pub ended : index ≡ 0 → marked (suc n) schedule marks index ≡ 0
  unfolding marked
  ended z = rw (eq-eqb index 0 z)

  module _ (z : index ≡ 0 → ⊥) where
    pub beyond : records schedule ≤ index → marked (suc n) schedule marks index ≡ 22
    unfolding marked first
    beyond l = rw (ne_eqb index 0 z, le-leb (records schedule) index l)

    module _ (l : index < records schedule) where
      pub again : get_or marks index false ≡ true → marked (suc n) schedule marks index ≡ 23
      unfolding marked first
      again m = rw (ne_eqb index 0 z, lt-leb (records schedule) index l, m)

      module _ (m : get_or marks index false ≡ false) (r : Record) (e : r ≡ record_at schedule index) (refusal : ℕ) (f : refusal ≡ record_refusal r) where
        pub refused : (refusal ≡ 0 → ⊥) → marked (suc n) schedule marks index ≡ refusal
        unfolding marked first
        refused h = rw (ne_eqb index 0 z, lt-leb (records schedule) index l, m, ← e, ← f, ne_eqb refusal 0 h)

        pub goes_on : refusal ≡ 0 → marked (suc n) schedule marks index ≡ marked n schedule (set marks index true) r.next
        unfolding marked first
        goes_on h =
            let rest = marked n schedule (set marks index true) r.next in
            rw (ne_eqb index 0 z, lt-leb (records schedule) index l, m, ← e, ← f, h) (first_last rest)

-- where k of n records are behind
module _ (n k : ℕ) (schedule : List ℕ) (marks : List Bool) (index : ℕ) where
  pub turn : k < n → marked (n - k) schedule marks index ≡ marked (suc (n - (k + 1))) schedule marks index
  turn l = let more : n - k ≡ suc (n - (k + 1)) = omega arith in rw more

  pub is_over : n ≤ k → marked (n - k) schedule marks index ≡ 0
  unfolding marked
  is_over l = let none : n - k ≡ 0 = omega arith in rw none
