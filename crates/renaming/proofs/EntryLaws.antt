-- Lists of entries that change alike, and one of them by itself.
use Prim.Native.Nat.{ℕ, zero, suc, ◌+◌, ◌<◌}
use mathlib.Core.Path.{◌≡◌, refl, sym, ap, ◌∙◌}
use mathlib.Core.List.{List, [], ◌∷◌}
use native.Mathlib.Omega.{arith}
use lib.ListN.{length, get_or, set}
use lib.Seq.{get_or-set_same, set-get_or}
use Rattle.tables.specs.Entry.{empty_entry}
use Rattle.tables.specs.declared.Entry.{Entry}
use Rattle.renaming.specs.Changes.{change_first}
use Rattle.renaming.proofs.ChangeLaws.{change_length, change_step}

-- one of them is stored before the change or after it
pub change_set : {A : Type 0} (f : A → A) (n i : ℕ) (elements : List A) (x : A) → i < n → change_first n f (set elements i x) ≡ set (change_first n f elements) i (f x)
unfolding change_first
change_set f zero i elements x h = absurd (omega arith)
change_set f (suc n) i [] x h = refl
change_set f (suc n) zero (y ∷ elements) x h = refl
change_set f (suc n) (suc i) (y ∷ elements) x h = ap (λ (rest : List _). f y ∷ rest) (change_set f n i elements x (omega arith))

-- two changes are one
pub change_twice : {A : Type 0} (f g : A → A) (n : ℕ) (elements : List A) → change_first n g (change_first n f elements) ≡ change_first n (λ (x : A). g (f x)) elements
unfolding change_first
change_twice f g zero elements = refl
change_twice f g (suc n) [] = refl
change_twice f g (suc n) (x ∷ elements) = ap (λ (rest : List _). g (f x) ∷ rest) (change_twice f g n elements)

-- stores at one place, and at two
pub set_same : {A : Type 0} (elements : List A) (i : ℕ) (x y : A) → set (set elements i x) i y ≡ set elements i y
set_same [] i x y = refl
set_same (z ∷ elements) zero x y = refl
set_same (z ∷ elements) (suc i) x y = ap (λ (rest : List _). z ∷ rest) (set_same elements i x y)

pub set_other : {A : Type 0} (elements : List A) (i j : ℕ) (x y : A) → (i ≡ j → ⊥) → set (set elements i x) j y ≡ set (set elements j y) i x
set_other [] i j x y h = refl
set_other (z ∷ elements) zero zero x y h = absurd (h refl)
set_other (z ∷ elements) zero (suc j) x y h = refl
set_other (z ∷ elements) (suc i) zero x y h = refl
set_other (z ∷ elements) (suc i) (suc j) x y h = ap (λ (rest : List _). z ∷ rest) (set_other elements i j x y (λ e. h (ap suc e)))

-- an entry that changes by itself before the others, or after them where both changes can be made in either order
pub change_late : (f g : Entry → Entry) → ((x : Entry) → f (g x) ≡ g (f x)) → (n i : ℕ) (entries : List Entry) (x : Entry) → i < n → i < length entries
    → change_first n f (set entries i (g x)) ≡ set (change_first n f (set entries i x)) i (g (get_or (change_first n f (set entries i x)) i empty_entry))
change_late f g order n i entries x h l =
    let before = change_set f n i entries x h in
    let there : i < length (change_first n f entries) = rw (change_length f n entries) l in
    change_set f n i entries (g x) h
    ∙ ap (set (change_first n f entries) i) (order x)
    ∙ sym (set_same (change_first n f entries) i (f x) (g (f x)))
    ∙ ap (λ (y : Entry). set (set (change_first n f entries) i (f x)) i (g y)) (sym (get_or-set_same (change_first n f entries) i (f x) empty_entry there))
    ∙ ap (λ (k : List Entry). set k i (g (get_or k i empty_entry))) (sym before)

-- a turn of a loop over the entries that finds nothing to change
pub change_skip : (f : Entry → Entry) (n : ℕ) (start entries : List Entry) → entries ≡ change_first n f start → get_or entries n empty_entry ≡ f (get_or entries n empty_entry) → entries ≡ change_first (n + 1) f start
change_skip f n start entries h same = sym (set-get_or entries n empty_entry) ∙ change_step f n start entries (get_or entries n empty_entry) h same

-- the loop's end
pub change_end : (f : Entry → Entry) (n count : ℕ) (start entries : List Entry) → entries ≡ change_first n f start → n ≡ count → entries ≡ change_first count f start
change_end f n count start entries h e = h ∙ ap (λ (k : ℕ). change_first k f start) e
