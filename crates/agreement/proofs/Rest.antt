-- What the invariant does not say of the entries between calls: a waiting one has no values and no result, and behind the last one every place is empty.
use Prim.Native.Nat.{ℕ, zero, suc, ◌+◌, ◌-◌, ◌≤◌, ◌<◌}
use mathlib.Core.Path.{◌≡◌, refl, sym, ap, subst, ◌∙◌}
use mathlib.Core.List.{List, [], ◌∷◌, ◌++◌}
use native.Mathlib.Omega.{arith}
use lib.ListN.{length, set, take, drop, length-drop}
use lib.Seq.{drop_at, length-take-le}
use Rattle.std.specs.List.{All}
use Rattle.std.proofs.lemmas.List.{drop-set}
use Rattle.std.proofs.lemmas.List.Elements.{All-cons, All-head, All-tail, All-same, All-append, All-set, All-take, All-drop}
use Rattle.tables.specs.Entry.{empty_entry}
use Rattle.tables.specs.declared.State.TheVariants.{Waits}
use Rattle.tables.specs.declared.Entry.{Entry}
use Rattle.renaming.specs.Changes.{change_first}
use Rattle.committing.specs.Commit.{move_down}
use Rattle.renaming.specs.declared.Core.{Core}

abbrev pub Cleared : Entry → Type 0
Cleared e = e.state ≡ Waits → (e.first ≡ 0) × (e.second ≡ 0) × (e.result ≡ 0)

abbrev pub Empty : Entry → Type 0
Empty e = e ≡ empty_entry

pub record Rest (m : Core) : Type 0 where
  pub cleared : All Cleared m.entries
  pub past : All Empty (drop m.count m.entries)

-- the first entries change alike
module _ {A : Type 0} (f : A → A) where
  pub all_changed : (q : A → Type 0) → ((x : A) → q x → q (f x)) → (n : ℕ) (es : List A) → All q es → All q (change_first n f es)
  unfolding change_first
  all_changed q g zero es h = h
  all_changed q g (suc n) [] h = h
  all_changed q g (suc n) (x ∷ es) h = All-cons q (f x) (change_first n f es) (g x (All-head q x es h)) (all_changed q g n es (All-tail q x es h))

  pub behind_changed : (n : ℕ) (es : List A) → drop n (change_first n f es) ≡ drop n es
  unfolding change_first
  behind_changed zero es = refl
  behind_changed (suc n) [] = refl
  behind_changed (suc n) (x ∷ es) = behind_changed n es

-- the youngest entry's place becomes empty
pub emptied : (n : ℕ) (es : List Entry) → n ≤ length es → All Empty (drop n es) → All Empty (drop (n - 1) (set es (n - 1) empty_entry))
emptied zero es h a = All-set Empty es 0 empty_entry refl a
emptied (suc n) es h a =
    let more : n + 1 ≡ suc n = omega arith in
    let last : suc n - 1 ≡ n = omega arith in
    subst (λ (k : ℕ). All Empty (drop k (set es k empty_entry))) (sym last)
    (All-same Empty (drop n (set es n empty_entry)) (empty_entry ∷ drop (suc n) es) (drop-set es n empty_entry (omega arith) ∙ ap (λ (k : ℕ). empty_entry ∷ drop k es) more)
    (All-cons Empty empty_entry (drop (suc n) es) refl a))

-- all entries move one place down, and the last place is emptied
module _ (count : ℕ) (entries : List Entry) where
  pub moved_cleared : All Cleared entries → All Cleared (move_down count entries)
  unfolding move_down
  moved_cleared h =
      All-append Cleared (drop 1 (take count entries)) (empty_entry ∷ drop count entries) (All-drop Cleared 1 (take count entries) (All-take Cleared count entries h))
      (All-cons Cleared empty_entry (drop count entries) (λ e. (refl, refl, refl)) (All-drop Cleared count entries h))

  pub moved_past : 0 < count → count ≤ length entries → All Empty (drop count entries) → All Empty (drop (count - 1) (move_down count entries))
  unfolding move_down
  moved_past some long a =
      let front = length-drop 1 (take count entries) in
      let all = length-take-le count entries long in
      All-same Empty (drop (count - 1) (drop 1 (take count entries) ++ empty_entry ∷ drop count entries)) (empty_entry ∷ drop count entries)
      (drop_at (drop 1 (take count entries)) (empty_entry ∷ drop count entries) (count - 1) (omega arith))
      (All-cons Empty empty_entry (drop count entries) refl a)
