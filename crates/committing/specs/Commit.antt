-- Commit.
use Rattle.std.specs.Prelude.{ℕ, ◌-◌, not, List, [], ◌∷◌, ◌++◌, eqb, take, drop}
use Rattle.isa.specs.Reads.{choose}
use Rattle.execution.specs.Memory.{stored}
use Rattle.reference.specs.Step.{when, first}
use Rattle.execution.specs.declared.Stop.{Stop}
use Rattle.tables.specs.Table.{look_up}
use Rattle.tables.specs.Entry.{empty_entry, is_completed}
use Rattle.tables.specs.declared.Entry.{Entry}
use Rattle.renaming.specs.Call.{halted, no_entry, lent_refusal, in_turn}
use Rattle.renaming.specs.Setters.{with_count, with_entries, with_next, with_halt}
use Rattle.renaming.specs.Changes.{entry_at, free_register, free_name}
use Rattle.renaming.specs.Drop.{drop_to}
use Rattle.renaming.specs.declared.Core.{Core}
use Rattle.renaming.specs.Answer.{Answer}

-- 10 halted; 12 empty window; 13 entry not completed
unfoldable pub commit_refusal : Core → ℕ
commit_refusal m = first (when (halted m) 10 ∷ when (no_entry m 0) 12 ∷ when (not (is_completed (entry_at m 0).state)) 13 ∷ [])

-- the machine halts
unfoldable pub halted_by : Stop → Core → Core
halted_by why m = with_halt why m

-- all entries move one place down, and the last place is emptied; places past the count stay
unfoldable pub move_down : ℕ → List Entry → List Entry
move_down count entries = drop 1 (take count entries) ++ empty_entry ∷ drop count entries

-- "the previous name's register, then that name, are freed, and next address becomes its predicted next"
unfoldable pub retired : Core → Core
retired m =
    let e : Entry = entry_at m 0 in
    with_next e.predicted (free_name e.previous (free_register (look_up m.physical e.previous) (with_count (m.count - 1) (with_entries (move_down m.count m.entries) m))))

-- "With a cause: the rest is dropped, then this entry; the machine halts with the cause, fetch and next address staying."
abbrev pub stopped_with : Stop → Core → Core
stopped_with why m = halted_by why (drop_to 0 m)

abbrev pub committed : Core → Core
committed m = choose (eqb (entry_at m 0).stop.cause 0) (retired m) (stopped_with (entry_at m 0).stop m)

-- "Otherwise a store writes data"
abbrev pub written_by : Entry → List ℕ → List ℕ
written_by e memory = choose (eqb e.stop.cause 0) (stored e.instruction e.first e.second memory) memory

-- the machine with its number, and the data
pub record Commit : Type 0 where
  pub answer : Answer
  pub memory : List ℕ

abbrev pub commit_by : ℕ → List ℕ → Core → Commit
commit_by refusal memory m =
    choose (eqb refusal 0) (record { answer = record { core = committed m; number = 0 }; memory = written_by (entry_at m 0) memory })
    (record { answer = record { core = m; number = refusal }; memory = memory })

-- commit, where 5 and 6 do not apply
unfoldable pub commit_within : List ℕ → Core → Commit
commit_within memory m = commit_by (commit_refusal m) memory m

unfoldable pub commit_of : List ℕ → List ℕ → Core → Commit
commit_of program memory m = commit_by (in_turn (lent_refusal m program memory) (commit_refusal m)) memory m
