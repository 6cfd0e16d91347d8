-- The walk along the chain with a mark for each index, where the definition has a list of those met.
use Prim.Native.Nat.{ℕ, zero, suc, ◌≤◌, ◌<◌}
use mathlib.Core.Path.{◌≡◌, refl, sym, ap, ◌∙◌}
use mathlib.Core.Bool.{Bool, true, false, ◌||◌}
use mathlib.Core.List.{List, [], ◌∷◌}
use native.Mathlib.Omega.{arith}
use borrow.Author.Tests.{eqb-true, eqb-false, leb-false}
use lib.Dec.{leb, eqb}
use lib.ListN.{length, get_or, set, length-set, replicate, length-replicate, get_or-replicate}
use lib.Seq.{get_or-set_same, get_or-set_other}
use Rattle.isa.specs.Reads.{choose}
use Rattle.reference.specs.Step.{when, first}
use Rattle.formats.specs.Schedule.{record_at, records, first_index}
use Rattle.formats.specs.Chain.{record_refusal, is_met, chain_refusal, schedule_refusal}

unfoldable pub marked : ℕ → List ℕ → List Bool → ℕ → ℕ
marked zero schedule marks index = 0
marked (suc n) schedule marks index =
    choose (eqb index 0) 0
    (first
    (when (leb (records schedule) index) 22
    ∷ when (get_or marks index false) 23
    ∷ record_refusal (record_at schedule index)
    ∷ marked n schedule (set marks index true) (record_at schedule index).next
    ∷ []))

-- the marks below n are those of the indices met
abbrev pub Agree : ℕ → List Bool → List ℕ → Type 0
Agree n marks met = (i : ℕ) → i < n → get_or marks i false ≡ is_met i met

agree_at : (n : ℕ) (marks : List Bool) (met : List ℕ) (index i : ℕ) → n ≤ length marks → Agree n marks met → i < n → (b : Bool) → eqb i index ≡ b → get_or (set marks index true) i false ≡ b || is_met i met
agree_at n marks met index i room h l true e =
    let q : index ≡ i = sym (eqb-true i index e) in
    ap (λ (x : ℕ). get_or (set marks x true) i false) q ∙ get_or-set_same marks i true false (omega arith)
agree_at n marks met index i room h l false e = get_or-set_other marks index i true false (eqb-false i index e) ∙ h i l

agree_more : (n : ℕ) (marks : List Bool) (met : List ℕ) (index : ℕ) → n ≤ length marks → Agree n marks met → Agree n (set marks index true) (index ∷ met)
unfolding is_met
agree_more n marks met index room h = λ i l. agree_at n marks met index i room h l (eqb i index) refl

module _ (schedule : List ℕ) where
  same_within : (n : ℕ) (marks : List Bool) (met : List ℕ) (index : ℕ) (b : Bool) → leb (records schedule) index ≡ b → (index < records schedule → get_or marks index false ≡ is_met index met)
      → marked n schedule (set marks index true) (record_at schedule index).next ≡ chain_refusal n schedule (index ∷ met) (record_at schedule index).next
      → marked (suc n) schedule marks index ≡ chain_refusal (suc n) schedule met index
  unfolding marked chain_refusal first
  same_within n marks met index true e same rest = rw e
  same_within n marks met index false e same rest = rw (same (leb-false (records schedule) index e), rest)

  pub same_walk : (n : ℕ) (marks : List Bool) (met : List ℕ) (index : ℕ) → records schedule ≤ length marks → Agree (records schedule) marks met → marked n schedule marks index ≡ chain_refusal n schedule met index
  unfolding marked chain_refusal
  same_walk zero marks met index room h = refl
  same_walk (suc n) marks met index room h =
      same_within n marks met index (leb (records schedule) index) refl (h index)
      (same_walk n (set marks index true) (index ∷ met) (record_at schedule index).next (rw (length-set marks index true) room) (agree_more (records schedule) marks met index room h))

  -- no mark is set at the start
  pub unmarked : (size index : ℕ) → records schedule ≤ size → index ≡ first_index schedule → marked (records schedule) schedule (replicate size false) index ≡ schedule_refusal schedule
  unfolding is_met
  unmarked size index room e =
      ap (marked (records schedule) schedule (replicate size false)) e
      ∙ same_walk (records schedule) (replicate size false) [] (first_index schedule) (omega (arith, length-replicate size false)) (λ i l. get_or-replicate size i false false (omega arith))
