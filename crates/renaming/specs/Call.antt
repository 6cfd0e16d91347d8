-- What the calls share.
use Rattle.std.specs.Prelude.{ℕ, Bool, not, ◌&&◌, List, [], ◌∷◌, leb, eqb, length}
use Rattle.isa.specs.Reads.{choose}
use Rattle.reference.specs.Step.{when, first}
use Rattle.tables.specs.Entry.{is_waiting, is_issued, is_completed}
use Rattle.tables.specs.declared.State.{State}
use Rattle.tables.specs.declared.State.TheVariants.{Waits, Issued, Completed}
use Rattle.tables.specs.declared.Entry.{Entry}
use Rattle.renaming.specs.Changes.{entry_at}
use Rattle.renaming.specs.Range.{machine_in_range}
use Rattle.renaming.specs.declared.Core.{Core}
use Rattle.renaming.specs.Answer.{Answer}

-- 6: "a lent length differs from set-up"
abbrev pub lengths_differ : Core → List ℕ → List ℕ → Bool
lengths_differ m program memory = not (eqb (length program) m.setup.program && eqb (length memory) m.setup.bytes)

-- what whoever holds a machine meets: 5, then 6
unfoldable pub lent_refusal : Core → List ℕ → List ℕ → ℕ
lent_refusal m program memory = first (when (not (machine_in_range m)) 5 ∷ when (lengths_differ m program memory) 6 ∷ [])

-- 10: halted
abbrev pub halted : Core → Bool
halted m = not (eqb m.halt.cause 0)

-- 12: no entry there
abbrev pub no_entry : Core → ℕ → Bool
no_entry m position = leb m.count position

-- 13: "entry not waiting (issue), issued (complete), completed (commit)"
abbrev pub in_state : State → Entry → Bool
in_state Waits e = is_waiting e.state
in_state Issued e = is_issued e.state
in_state Completed e = is_completed e.state

-- 10, 12 and 13, with which issue, complete and commit begin
unfoldable pub entry_refusal : State → ℕ → Core → ℕ
entry_refusal wanted position m = first (when (halted m) 10 ∷ when (no_entry m position) 12 ∷ when (not (in_state wanted (entry_at m position))) 13 ∷ [])

-- "Each call takes the machine and hands back the next one, with 0 or a refusal": at a refusal the machine as it came
abbrev pub answered : Core → ℕ → Core → Answer
answered m refusal next = choose (eqb refusal 0) (record { core = next; number = 0 }) (record { core = m; number = refusal })

-- "Calls check 5, 6, then 10 to 16 rising."
abbrev pub in_turn : ℕ → ℕ → ℕ
in_turn lent own = first (lent ∷ own ∷ [])
