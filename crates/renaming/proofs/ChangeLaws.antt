-- Loops over the entries.
use Prim.Native.Nat.{ℕ, zero, suc, ◌+◌}
use mathlib.Core.Path.{◌≡◌, refl, sym, ap, ◌∙◌}
use mathlib.Core.List.{List, [], ◌∷◌, map}
use native.Mathlib.Numerals.{add-one}
use lib.ListN.{length, get_or, set, length-map}
use Rattle.tables.specs.Entry.{empty_entry}
use Rattle.tables.specs.declared.Entry.{Entry}
use Rattle.renaming.specs.declared.Core.{Core}
use Rattle.renaming.specs.Setters.{with_entries}
use Rattle.renaming.specs.Changes.{change_first}

-- the length of an array of structs: what is known of it stands at what its elements are made of
pub length_mapped : {A B : Type 0} (f : A → B) (elements : List A) (n : ℕ) → length (map f elements) ≡ n → length elements ≡ n
length_mapped f elements n e = sym (length-map elements f) ∙ e

-- entries that change alike, one after the other
pub change_none : {A : Type 0} (f : A → A) (elements : List A) → elements ≡ change_first 0 f elements
unfolding change_first
change_none f elements = refl

pub change_more : {A : Type 0} (f : A → A) (default : A) (n : ℕ) (elements : List A)
    → set (change_first n f elements) n (f (get_or (change_first n f elements) n default)) ≡ change_first (suc n) f elements
unfolding change_first
change_more f default zero [] = refl
change_more f default zero (e ∷ elements) = refl
change_more f default (suc n) [] = refl
change_more f default (suc n) (e ∷ elements) = ap (λ (rest : List _). f e ∷ rest) (change_more f default n elements)

pub change_length : {A : Type 0} (f : A → A) (n : ℕ) (elements : List A) → length (change_first n f elements) ≡ length elements
unfolding change_first
change_length f zero elements = refl
change_length f (suc n) [] = refl
change_length f (suc n) (e ∷ elements) = ap suc (change_length f n elements)

-- one turn of such a loop
pub change_step : (f : Entry → Entry) (n : ℕ) (start entries : List Entry) (e : Entry) → entries ≡ change_first n f start → e ≡ f (get_or entries n empty_entry) → set entries n e ≡ change_first (n + 1) f start
change_step f n start entries e h g =
    ap (set entries n) g ∙ ap (λ (x : List Entry). set x n (f (get_or x n empty_entry))) h ∙ change_more f empty_entry n start ∙ ap (λ (j : ℕ). change_first j f start) (sym (add-one n))

-- the same on the machine
pub change_turn : (m k : Core) (f : Entry → Entry) (n : ℕ) (e : Entry) → k ≡ with_entries (change_first n f m.entries) m → e ≡ f (get_or k.entries n empty_entry)
    → with_entries (set k.entries n e) k ≡ with_entries (change_first (n + 1) f m.entries) m
change_turn m k f n e h g =
    ap (with_entries (set k.entries n e)) h
    ∙ ap (λ (entries : List Entry). with_entries entries m) (change_step f n m.entries k.entries e (ap (λ (x : Core). x.entries) h) g)
