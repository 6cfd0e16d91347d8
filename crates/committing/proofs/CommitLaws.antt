-- Commit, put together from its parts.
use Prim.Native.Nat.{ℕ, zero, suc, ◌-◌, ◌≤◌, ◌<◌}
use mathlib.Core.Path.{◌≡◌, refl, sym, ap, ◌∙◌}
use mathlib.Core.List.{List, [], ◌∷◌, ◌++◌}
use native.Mathlib.Omega.{arith}
use native.Mathlib.Nat.{zero-add}
use borrow.Author.Tests.{ne_eqb}
use lib.ListN.{length, set, take, drop}
use Rattle.std.specs.List.{copy_within}
use Rattle.tables.specs.Entry.{empty_entry}
use Rattle.tables.specs.declared.Entry.{Entry}
use Rattle.renaming.specs.declared.Core.{Core}
use Rattle.renaming.specs.Call.{lent_refusal}
use Rattle.committing.specs.Commit.{commit_refusal, move_down, commit_by, commit_within, commit_of}
use Rattle.renaming.proofs.RefusalLaws.{own_next}

-- the last of the elements that moved gives way
moved : {A : Type 0} (z : A) (n : ℕ) (elements : List A) → n < length elements → set (take n (drop 1 elements) ++ drop n elements) n z ≡ drop 1 (take (suc n) elements) ++ z ∷ drop (suc n) elements
moved z n [] h = absurd (omega arith)
moved z zero (x ∷ elements) h = refl
moved z (suc n) (x ∷ []) h = absurd (omega arith)
moved z (suc n) (x ∷ y ∷ elements) h = ap (λ (rest : List _). y ∷ rest) (moved z n (y ∷ elements) (omega arith))

-- the entries after the copy, with the last place emptied
pub moved_down : (count : ℕ) (entries : List Entry) → 0 < count → count ≤ length entries → set (copy_within entries 1 count 0) (count - 1) empty_entry ≡ move_down count entries
unfolding move_down
moved_down count entries some e =
    let n : suc (count - 1) ≡ count = omega arith in
    ap (λ (j : ℕ). set (take (count - 1) (drop 1 entries) ++ drop j entries) (count - 1) empty_entry) (zero-add (count - 1))
    ∙ moved empty_entry (count - 1) entries (omega arith)
    ∙ ap (λ (j : ℕ). drop 1 (take j entries) ++ empty_entry ∷ drop j entries) n

-- what commit answers at a refusal
pub commit_refused : (memory : List ℕ) (m : Core) (refusal number : ℕ) → number ≡ refusal → (number ≡ 0 → ⊥) → commit_by refusal memory m ≡ record { answer = record { core = m; number = number }; memory = memory }
commit_refused memory m refusal number e h = rw (e, ne_eqb refusal 0 (λ z. h (e ∙ z)))

pub commit_lent : (program memory : List ℕ) (m : Core) → lent_refusal m program memory ≡ 0 → commit_of program memory m ≡ commit_within memory m
unfolding commit_within commit_of
commit_lent program memory m e = ap (λ (n : ℕ). commit_by n memory m) (sym (own_next (lent_refusal m program memory) (commit_refusal m) e))
