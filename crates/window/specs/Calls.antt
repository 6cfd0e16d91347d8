-- The calls: what each one leaves, which one position 0 needs, what one stole and dropped.
use Rattle.std.specs.Prelude.{ℕ, ◌-◌, Bool, true, false, ◌&&◌, List, eqb}
use Rattle.isa.specs.Reads.{choose}
use Rattle.tables.specs.declared.State.{State}
use Rattle.tables.specs.declared.State.TheVariants.{Waits, Issued, Completed}
use Rattle.renaming.specs.Changes.{entry_at}
use Rattle.renaming.specs.declared.Core.{Core}
use Rattle.decoding.specs.Decode.{decode_within, decode_of}
use Rattle.issuing.specs.Issue.{issue_within, issue_of}
use Rattle.completing.specs.Complete.{needs_register, none_free, complete_within, complete_of}
use Rattle.committing.specs.Commit.{commit_within, commit_of}
use Rattle.window.specs.declared.Call.{Call}
use Rattle.window.specs.declared.Call.TheVariants.{Decode, Issue, Complete, Commit}

-- a core, and the data as the calls so far left them
pub record World : Type 0 where
  pub core : Core
  pub memory : List ℕ

abbrev pub world_of : Core → List ℕ → World
world_of m memory = record { core = m; memory = memory }

-- what a call leaves, and its number
pub record Made : Type 0 where
  pub world : World
  pub number : ℕ

abbrev pub made_by : Core → List ℕ → ℕ → Made
made_by m memory number = record { world = world_of m memory; number = number }

-- a call on lent program and data
abbrev pub call_of : List ℕ → List ℕ → Call → Core → Made
call_of program memory (Decode guess) m = made_by (decode_of program memory guess m).core memory (decode_of program memory guess m).number
call_of program memory (Issue position) m = made_by (issue_of program memory position m).core memory (issue_of program memory position m).number
call_of program memory (Complete position) m = made_by (complete_of program memory position m).core memory (complete_of program memory position m).number
call_of program memory Commit m = made_by (commit_of program memory m).answer.core (commit_of program memory m).memory (commit_of program memory m).answer.number

-- a call is made with the data as the calls before left them
unfoldable pub make : List ℕ → Call → World → Made
make program call w = call_of program w.memory call w.core

-- a call, where 5 and 6 do not apply
abbrev pub call_within : List ℕ → List ℕ → Call → Core → Made
call_within program memory (Decode guess) m = made_by (decode_within program guess m).core memory (decode_within program guess m).number
call_within program memory (Issue position) m = made_by (issue_within memory position m).core memory (issue_within memory position m).number
call_within program memory (Complete position) m = made_by (complete_within position m).core memory (complete_within position m).number
call_within program memory Commit m = made_by (commit_within memory m).answer.core (commit_within memory m).memory (commit_within memory m).answer.number

unfoldable pub make_within : List ℕ → Call → World → Made
make_within program call w = call_within program w.memory call w.core

-- "the calls that commit position 0": the one that its state still needs
abbrev pub needed_by : State → Call
needed_by Waits = Issue 0
needed_by Issued = Complete 0
needed_by Completed = Commit

abbrev pub needed_of : Core → Call
needed_of m = needed_by (entry_at m 0).state

abbrev pub is_commit : Call → Bool
is_commit (Decode guess) = false
is_commit (Issue position) = false
is_commit (Complete position) = false
is_commit Commit = true

-- the registers that an accepted call stole: one, where a register is needed and none is free
abbrev pub stolen : Call → Core → ℕ
stolen (Decode guess) before = 0
stolen (Issue position) before = 0
stolen (Complete position) before = choose (needs_register before position && none_free before) 1 0
stolen Commit before = 0

-- the entries that an accepted call dropped: those behind a wrong prediction and behind a halting entry; "the halting entry is not a dropped one"
abbrev pub dropped : Call → Core → Core → ℕ
dropped (Decode guess) before after = 0
dropped (Issue position) before after = 0
dropped (Complete position) before after = before.count - after.count
dropped Commit before after = choose (eqb after.halt.cause 0) 0 (before.count - 1)
