-- Issue, put together from its parts.
use Prim.Native.Nat.{ℕ, zero, suc, ◌<◌}
use mathlib.Core.Path.{◌≡◌, refl, ap, ◌∙◌}
use mathlib.Core.Bool.{Bool, true, false, not, ◌&&◌, ◌||◌}
use mathlib.Core.List.{List, [], ◌∷◌}
use borrow.Author.Tests.{leb-false}
use lib.ListN.{get_or, take}
use Rattle.std.specs.List.{list_any}
use Rattle.execution.specs.Roles.{loads, stores, stores_by}
use Rattle.reference.specs.Step.{when}
use Rattle.tables.specs.Entry.{empty_entry, is_waiting}
use Rattle.tables.specs.declared.Entry.{Entry}
use Rattle.renaming.specs.declared.Core.{Core}
use Rattle.renaming.specs.Call.{halted, no_entry, lent_refusal, answered}
use Rattle.renaming.specs.Changes.{entry_at}
use Rattle.issuing.specs.Issue.{store_below, unready, issue_refusal, issued, issue_within, issue_of}
use Rattle.renaming.proofs.RefusalLaws.{passed, own_next}

or_exchange : (a b c : Bool) → a || (b || c) ≡ b || (a || c)
or_exchange false b c = refl
or_exchange true true c = refl
or_exchange true false c = refl

abbrev is_stored : Entry → Bool
is_stored e = stores e.instruction

-- the youngest of n + 1 entries, or one of those before it; past the end stands no store
youngest_or : (n : ℕ) (entries : List Entry) → list_any is_stored (take (suc n) entries) ≡ is_stored (get_or entries n empty_entry) || list_any is_stored (take n entries)
unfolding stores_by
youngest_or zero [] = refl
youngest_or (suc n) [] = refl
youngest_or zero (e ∷ entries) = refl
youngest_or (suc n) (e ∷ entries) =
    ap (λ (b : Bool). is_stored e || b) (youngest_or n entries)
    ∙ or_exchange (is_stored e) (is_stored (get_or entries n empty_entry)) (list_any is_stored (take n entries))

pub store_among : (n : ℕ) (entries : List Entry) → list_any (λ (e : Entry). stores e.instruction) (take n entries) ≡ store_below n entries
unfolding store_below
store_among zero entries = refl
store_among (suc n) entries = youngest_or n entries ∙ ap (λ (b : Bool). is_stored (get_or entries n empty_entry) || b) (store_among n entries)

-- an issue that is not refused has an entry
pub has_entry : (position : ℕ) (m : Core) → issue_refusal position m ≡ 0 → position < m.count
unfolding issue_refusal
has_entry position m z =
    let e = entry_at m position in
    let rest = when (not (is_waiting e.state)) 13 ∷ when (unready e) 14 ∷ when (loads e.instruction && store_below position m.entries) 15 ∷ [] in
    leb-false m.count position (passed (no_entry m position) 12 rest refl (passed (halted m) 10 (when (no_entry m position) 12 ∷ rest) refl z).1).0

pub issue_lent : (program memory : List ℕ) (position : ℕ) (m : Core) → lent_refusal m program memory ≡ 0 → issue_within memory position m ≡ issue_of program memory position m
unfolding issue_within issue_of
issue_lent program memory position m e = ap (λ (n : ℕ). answered m n (issued memory position m)) (own_next (lent_refusal m program memory) (issue_refusal position m) e)
