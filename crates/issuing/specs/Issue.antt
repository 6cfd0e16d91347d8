-- Issue.
use Rattle.std.specs.Prelude.{ℕ, zero, suc, Bool, false, not, ◌&&◌, ◌||◌, List, [], ◌∷◌, get_or}
use Rattle.execution.specs.Memory.{second_value}
use Rattle.execution.specs.Roles.{loads, stores}
use Rattle.reference.specs.Step.{when, first}
use Rattle.tables.specs.Operand.{is_ready, value_of}
use Rattle.tables.specs.Entry.{empty_entry, is_waiting, issued_entry}
use Rattle.tables.specs.declared.Entry.{Entry}
use Rattle.renaming.specs.Call.{halted, no_entry, lent_refusal, in_turn, answered}
use Rattle.renaming.specs.Changes.{entry_at, place}
use Rattle.renaming.specs.declared.Core.{Core}
use Rattle.renaming.specs.Answer.{Answer}

-- one of the oldest n entries is a store
unfoldable pub store_below : ℕ → List Entry → Bool
store_below zero entries = false
store_below (suc n) entries = stores (get_or entries n empty_entry).instruction || store_below n entries

-- 14: operand not ready
abbrev pub unready : Entry → Bool
unready e = not (is_ready e.left && is_ready e.right)

-- 10 halted; 12 no entry there; 13 entry not waiting; 14 operand not ready; 15 load with an older store in the window
unfoldable pub issue_refusal : ℕ → Core → ℕ
issue_refusal position m =
    first
    (when (halted m) 10
    ∷ when (no_entry m position) 12
    ∷ when (not (is_waiting (entry_at m position).state)) 13
    ∷ when (unready (entry_at m position)) 14
    ∷ when (loads (entry_at m position).instruction && store_below position m.entries) 15
    ∷ [])

-- "Operand values are read, and a load reads data, extended to 32 bits, as its second value (0 where cause 6 applies)."
abbrev pub first_read : List ℕ → Entry → ℕ
first_read values e = value_of values e.left

abbrev pub second_read : List ℕ → List ℕ → Entry → ℕ
second_read values memory e = second_value e.instruction (first_read values e) (value_of values e.right) memory

abbrev pub read_entry : List ℕ → List ℕ → Entry → Entry
read_entry values memory e = issued_entry (first_read values e) (second_read values memory e) e

unfoldable pub issued : List ℕ → ℕ → Core → Core
issued memory position m = place position (read_entry m.values memory (entry_at m position)) m

-- issue, where 5 and 6 do not apply
unfoldable pub issue_within : List ℕ → ℕ → Core → Answer
issue_within memory position m = answered m (issue_refusal position m) (issued memory position m)

unfoldable pub issue_of : List ℕ → List ℕ → ℕ → Core → Answer
issue_of program memory position m = answered m (in_turn (lent_refusal m program memory) (issue_refusal position m)) (issued memory position m)
