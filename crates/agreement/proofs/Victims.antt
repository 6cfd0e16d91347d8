-- The search for a victim finds a holder where there is one, and nothing else.
use Prim.Native.Nat.{ℕ, zero, suc, ◌+◌, ◌≤◌, ◌<◌}
use mathlib.Core.Path.{◌≡◌, refl, ◌∙◌}
use mathlib.Core.Logic.{◌≢◌}
use mathlib.Core.Bool.{Bool, true, false}
use mathlib.Core.List.{List}
use native.Mathlib.Omega.{arith}
use borrow.Author.Tests.{eqb-true, eqb-false}
use lib.Dec.{eqb}
use lib.ListN.{get_or}
use Rattle.isa.specs.Reads.{choose}
use Rattle.tables.specs.Table.{look_up}
use Rattle.tables.specs.Entry.{empty_entry, held_in, held}
use Rattle.tables.specs.declared.State.{State as Stage}
use Rattle.tables.specs.declared.State.TheVariants.{Waits, Issued, Completed}
use Rattle.tables.specs.declared.Entry.{Entry}
use Rattle.stealing.specs.Steal.{victim_among}
use Rattle.agreement.proofs.Tests.{equal, apart, eq?}
use Rattle.agreement.proofs.Stores.{look_get}

-- what an entry holds, by its state and the map
pub held_some : (physical : List ℕ) (e : Entry) → get_or physical 0 0 ≡ 0 → held physical e ≢ 0 → (e.state ≡ Completed) × (get_or physical e.name 0 ≢ 0)
held_some physical e z h = cases e.state refl h
  where
    cases : (t : Stage) → e.state ≡ t → held_in t (look_up physical e.name) ≢ 0 → (e.state ≡ Completed) × (get_or physical e.name 0 ≢ 0)
    cases Waits q f = absurd (f refl)
    cases Issued q f = absurd (f refl)
    cases Completed q f = (q, λ y. f (look_get physical e.name z ∙ y))

pub held_completed : (physical : List ℕ) (e : Entry) → get_or physical 0 0 ≡ 0 → e.state ≡ Completed → held physical e ≡ get_or physical e.name 0
held_completed physical e z h = rw h (look_get physical e.name z)

pub victim_is : (n : ℕ) (physical : List ℕ) (entries : List Entry) (position : ℕ) → victim_among n physical entries position ≢ position
    → (position < victim_among n physical entries position) × (victim_among n physical entries position ≤ position + n) × (held physical (get_or entries (victim_among n physical entries position) empty_entry) ≢ 0)
unfolding victim_among
victim_is zero physical entries position h = absurd (h refl)
victim_is (suc n) physical entries position h = cases (eqb (held physical (get_or entries (position + suc n) empty_entry)) 0) refl (victim_is n physical entries position) h
  where
    cases : (b : Bool) → eqb (held physical (get_or entries (position + suc n) empty_entry)) 0 ≡ b
        → (victim_among n physical entries position ≢ position
        → (position < victim_among n physical entries position) × (victim_among n physical entries position ≤ position + n) × (held physical (get_or entries (victim_among n physical entries position) empty_entry) ≢ 0))
        → choose b (victim_among n physical entries position) (position + suc n) ≢ position
        → (position < choose b (victim_among n physical entries position) (position + suc n)) × (choose b (victim_among n physical entries position) (position + suc n) ≤ position + suc n)
        × (held physical (get_or entries (choose b (victim_among n physical entries position) (position + suc n)) empty_entry) ≢ 0)
    cases true e r l = ((r l).0, omega (arith, (r l).1), (r l).2)
    cases false e r l = (omega arith, omega arith, eqb-false _ 0 e)

pub victim_found : (n : ℕ) (physical : List ℕ) (entries : List Entry) (position j : ℕ) → position < j → j ≤ position + n → held physical (get_or entries j empty_entry) ≢ 0
    → victim_among n physical entries position ≢ position
unfolding victim_among
victim_found zero physical entries position j a b h = absurd (omega arith)
victim_found (suc n) physical entries position j a b h = cases (eqb (held physical (get_or entries (position + suc n) empty_entry)) 0) refl (λ c. victim_found n physical entries position j a c h)
  where
    cases : (t : Bool) → eqb (held physical (get_or entries (position + suc n) empty_entry)) 0 ≡ t → (j ≤ position + n → victim_among n physical entries position ≢ position)
        → choose t (victim_among n physical entries position) (position + suc n) ≢ position
    cases true e r = elim (eq? j (position + suc n)) [
      | equal q t ↦ absurd (h (rw q (eqb-true _ 0 e)))
      | apart q t ↦ r (omega arith)
    ]
    cases false e r = omega arith
