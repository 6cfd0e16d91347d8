-- Reading and storing by number, where the number is 0, in the table or beyond it.
use Prim.Native.Nat.{ℕ, zero, suc, ◌≤◌, ◌<◌}
use mathlib.Core.Path.{◌≡◌, refl, sym, ap, ◌∙◌}
use mathlib.Core.Bool.{Bool, true, false}
use mathlib.Core.List.{List, [], ◌∷◌}
use borrow.Author.Tests.{eq-eqb, ne_eqb}
use lib.ListN.{length, get_or, set, length-set, get_or-eq_default}
use lib.Dec.{eqb}
use lib.Seq.{set_out, get_or-set_same, get_or-set_other}
use Rattle.isa.specs.Reads.{choose}
use Rattle.tables.specs.Table.{look_under, look_up, store_under}

module _ {A : Type 0} (none : A) (table : List A) (n : ℕ) where
  pub under_zero : n ≡ 0 → none ≡ look_under none table n
  unfolding look_under
  under_zero e = rw (eq-eqb n 0 e)

  pub under_within : (n ≡ 0 → ⊥) → get_or table n none ≡ look_under none table n
  unfolding look_under
  under_within h = rw (ne_eqb n 0 h)

  pub under_beyond : (n ≡ 0 → ⊥) → length table ≤ n → none ≡ look_under none table n
  under_beyond h l = sym (get_or-eq_default table none {n = n} l) ∙ under_within h

abbrev pub look_zero : (table : List ℕ) (n : ℕ) → n ≡ 0 → 0 ≡ look_up table n
look_zero = under_zero 0

abbrev pub look_within : (table : List ℕ) (n : ℕ) → (n ≡ 0 → ⊥) → get_or table n 0 ≡ look_up table n
look_within = under_within 0

abbrev pub look_beyond : (table : List ℕ) (n : ℕ) → (n ≡ 0 → ⊥) → length table ≤ n → 0 ≡ look_up table n
look_beyond = under_beyond 0

module _ {A : Type 0} (table : List A) (n : ℕ) (value : A) where
  pub store_zero : n ≡ 0 → table ≡ store_under table n value
  unfolding store_under
  store_zero e = rw (eq-eqb n 0 e)

  pub store_within : (n ≡ 0 → ⊥) → set table n value ≡ store_under table n value
  unfolding store_under
  store_within h = rw (ne_eqb n 0 h)

  pub store_beyond : (n ≡ 0 → ⊥) → length table ≤ n → table ≡ store_under table n value
  store_beyond h l = sym (set_out table n value l) ∙ store_within h

-- what stands under a number after a store
module _ (table : List ℕ) (n k value : ℕ) where
  pub look_other : (k ≡ n → ⊥) → look_up (store_under table n value) k ≡ look_up table k
  unfolding look_under store_under
  look_other h = at (eqb n 0) (eqb k 0)
    where
      at : (a b : Bool) → choose b 0 (get_or (choose a table (set table n value)) k 0) ≡ choose b 0 (get_or table k 0)
      at true b = refl
      at false true = refl
      at false false = get_or-set_other table n k value 0 h

pub look_same : (table : List ℕ) (n value : ℕ) → (n ≡ 0 → ⊥) → n < length table → look_up (store_under table n value) n ≡ value
look_same table n value h l =
    sym (ap (λ (t : List ℕ). look_up t n) (store_within table n value h)) ∙ sym (look_within (set table n value) n h) ∙ get_or-set_same table n value 0 l

cleared : (table : List ℕ) (n : ℕ) → get_or (set table n 0) n 0 ≡ 0
cleared [] n = refl
cleared (x ∷ xs) zero = refl
cleared (x ∷ xs) (suc n) = cleared xs n

-- a number whose place was cleared reads 0, in the table or beyond it
pub look_cleared : (table : List ℕ) (n : ℕ) → look_up (store_under table n 0) n ≡ 0
unfolding look_under store_under
look_cleared table n = at (eqb n 0)
  where
    at : (a : Bool) → choose a 0 (get_or (choose a table (set table n 0)) n 0) ≡ 0
    at true = refl
    at false = cleared table n

pub store_length : {A : Type 0} (table : List A) (n : ℕ) (value : A) → length (store_under table n value) ≡ length table
unfolding store_under
store_length table n value = at (eqb n 0)
  where
    at : (b : Bool) → length (choose b table (set table n value)) ≡ length table
    at true = refl
    at false = length-set table n value
