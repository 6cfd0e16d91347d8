-- The tables' functions against plain reading and writing of lists, where index 0 holds 0.
use Prim.Native.Nat.{ℕ, zero, suc}
use mathlib.Core.Path.{◌≡◌, refl, sym, ap, ◌∙◌}
use mathlib.Core.Bool.{Bool, true, false, not}
use mathlib.Core.List.{List, [], ◌∷◌, map}
use native.Mathlib.Omega.{arith}
use borrow.Author.Tests.{ne_eqb, eqb-true}
use lib.Dec.{eqb}
use lib.ListN.{get_or, set, take}
use lib.Seq.{set-get_or}
use Rattle.isa.specs.Reads.{choose}
use Rattle.tables.specs.Table.{look_under, look_up, store_under}
use Rattle.tables.specs.FreeList.{freed_head, freed_link, freed}
use Rattle.tables.specs.Operand.{wake, sleep, shown_operand}
use Rattle.tables.specs.Entry.{wake_entry, sleep_entry}
use Rattle.tables.specs.declared.Operand.{Operand}
use Rattle.tables.specs.declared.Operand.TheVariants.{Zero, Waiting, Ready}
use Rattle.tables.specs.declared.Entry.{Entry}
use Rattle.tables.specs.declared.FreeList.{FreeList}
use Rattle.tables.proofs.TableLaws.{look_within, store_within, store_zero}
use Rattle.renaming.specs.Changes.{change_first}
use Rattle.agreement.proofs.View.{operand_for, name_in, informed, inform_entry, put_head, put_link, put}

-- storing under 0 does nothing; so does writing there what stands there
pub store_set : {A : Type 0} (t : List A) (n : ℕ) (v d : A) → (n ≡ 0 → get_or t 0 d ≡ v) → store_under t n v ≡ set t n v
store_set t zero v d h = sym (store_zero t 0 v refl) ∙ sym (set-get_or t 0 d) ∙ ap (set t 0) (h refl)
store_set t (suc n) v d h = sym (store_within t (suc n) v (λ e. omega arith))

pub look_get : (t : List ℕ) (n : ℕ) → get_or t 0 0 ≡ 0 → look_up t n ≡ get_or t n 0
unfolding look_under
look_get t zero h = sym h
look_get t (suc n) h = sym (look_within t (suc n) (λ e. omega arith))

-- a number put back
pub freed_head_lem : (head n : ℕ) → freed_head head n ≡ put_head n head
unfolding put_head
freed_head_lem head zero = refl
freed_head_lem head (suc n) = rw (ne_eqb (suc n) 0 (λ e. omega arith))

pub freed_link_lem : (link : List ℕ) (head n : ℕ) → freed_link link head n ≡ put_link n head link
unfolding put_link
freed_link_lem link head zero = sym (store_zero link 0 head refl)
freed_link_lem link head (suc n) = sym (store_within link (suc n) head (λ e. omega arith))

pub freed_lem : (n : ℕ) (pool : FreeList) → freed n pool ≡ put n pool
freed_lem n pool = λ i. record { head = freed_head_lem pool.head n i; link = freed_link_lem pool.link pool.head n i }

-- operands on a name
pub operand_some : (n r : ℕ) → (n ≡ 0 → ⊥) → (r ≡ 0 → ⊥) → operand_for n r ≡ Ready n r
unfolding operand_for
operand_some zero r h k = absurd (h refl)
operand_some (suc n) zero h k = absurd (k refl)
operand_some (suc n) (suc r) h k = refl

pub operand_none : (n : ℕ) → (n ≡ 0 → ⊥) → operand_for n 0 ≡ Waiting n
unfolding operand_for
operand_none zero h = absurd (h refl)
operand_none (suc n) h = refl

at_name : (k n : ℕ) (f : ℕ → Operand) (o : Operand) → choose (eqb k n) (f k) o ≡ choose (eqb k n) (f n) o
at_name k n f o = at (eqb k n) refl
  where
    at : (b : Bool) → eqb k n ≡ b → choose b (f k) o ≡ choose b (f n) o
    at true e = ap f (eqb-true k n e)
    at false e = refl

pub wake_informed : (n r : ℕ) (o : Operand) → (n ≡ 0 → ⊥) → (r ≡ 0 → ⊥) → wake n r o ≡ informed n r o
unfolding informed name_in
wake_informed n r Zero h k = rw (ne_eqb 0 n (λ e. h (sym e)))
wake_informed n r (Waiting m) h k = at_name m n (λ x. Ready x r) (Waiting m) ∙ ap (λ (o : Operand). choose (eqb m n) o (Waiting m)) (sym (operand_some n r h k))
wake_informed n r (Ready m q) h k = at_name m n (λ x. Ready x r) (Ready m q) ∙ ap (λ (o : Operand). choose (eqb m n) o (Ready m q)) (sym (operand_some n r h k))

either : {A : Type 0} (b : Bool) (x : A) → choose b x x ≡ x
either true x = refl
either false x = refl

pub sleep_informed : (n : ℕ) (o : Operand) → (n ≡ 0 → ⊥) → sleep n o ≡ informed n 0 o
unfolding informed name_in
sleep_informed n Zero h = rw (ne_eqb 0 n (λ e. h (sym e)))
sleep_informed n (Waiting m) h =
    sym (either (eqb m n) (Waiting m)) ∙ at_name m n Waiting (Waiting m) ∙ ap (λ (o : Operand). choose (eqb m n) o (Waiting m)) (sym (operand_none n h))
sleep_informed n (Ready m q) h = at_name m n Waiting (Ready m q) ∙ ap (λ (o : Operand). choose (eqb m n) o (Ready m q)) (sym (operand_none n h))

pub wake_entry_lem : (n r : ℕ) (e : Entry) → (n ≡ 0 → ⊥) → (r ≡ 0 → ⊥) → wake_entry n r e ≡ inform_entry n r e
wake_entry_lem n r e h k = rw (wake_informed n r e.left h k, wake_informed n r e.right h k)

pub sleep_entry_lem : (n : ℕ) (e : Entry) → (n ≡ 0 → ⊥) → sleep_entry n e ≡ inform_entry n 0 e
sleep_entry_lem n e h = rw (sleep_informed n e.left h, sleep_informed n e.right h)

-- the operand that decode gives, from the general map
pub shown_operand_lem : (r name register : ℕ) (valid : Bool) → (r ≡ 0 → name ≡ 0) → ((r ≡ 0 → ⊥) → name ≡ 0 → ⊥) → valid ≡ not (eqb register 0)
    → shown_operand r name register valid ≡ operand_for name register
unfolding operand_for
shown_operand_lem zero name register valid z s v = rw (z refl)
shown_operand_lem (suc r) name zero valid z s v = rw (ne_eqb (suc r) 0 (λ e. omega arith), v) (sym (operand_none name (s (λ e. omega arith))))
shown_operand_lem (suc r) name (suc register) valid z s v =
    rw (ne_eqb (suc r) 0 (λ e. omega arith), v, ne_eqb (suc register) 0 (λ e. omega arith)) (sym (operand_some name (suc register) (s (λ e. omega arith)) (λ e. omega arith)))

-- the first elements change alike
module _ {A : Type 0} (f : A → A) where
  pub first_changed : (k : ℕ) (l : List A) → take k (change_first k f l) ≡ map f (take k l)
  unfolding change_first
  first_changed zero l = refl
  first_changed (suc k) [] = refl
  first_changed (suc k) (x ∷ l) = ap (λ (r : List A). f x ∷ r) (first_changed k l)

pub map_alike : {A B : Type 0} (f g : A → B) (l : List A) → ((x : A) → f x ≡ g x) → map f l ≡ map g l
map_alike f g [] h = refl
map_alike {B = B} f g (x ∷ l) h = ap (λ (y : B). y ∷ map f l) (h x) ∙ ap (λ (r : List B). g x ∷ r) (map_alike f g l h)
