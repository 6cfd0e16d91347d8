-- Complete.
use Rattle.std.specs.Prelude.{ℕ, suc, Bool, true, not, ◌&&◌, List, [], ◌∷◌, eqb}
use Rattle.isa.specs.Reads.{choose}
use Rattle.execution.specs.Execute.{executed, Outcome}
use Rattle.reference.specs.Step.{when, first}
use Rattle.tables.specs.Table.{store_under}
use Rattle.tables.specs.Entry.{is_issued, stopped_entry, completed_entry, predicted_entry, wake_entry, held}
use Rattle.tables.specs.declared.Entry.{Entry}
use Rattle.renaming.specs.Call.{halted, no_entry, lent_refusal, in_turn, answered}
use Rattle.renaming.specs.Setters.{with_values, with_fetch}
use Rattle.renaming.specs.Changes.{entry_at, place, change_all, take_register, maps_learn}
use Rattle.renaming.specs.Drop.{drop_to}
use Rattle.renaming.specs.declared.Core.{Core}
use Rattle.renaming.specs.Answer.{Answer}
use Rattle.stealing.specs.Steal.{victim_of, no_victim, robbed}

-- "The result … and actual next address are found from the values read."
abbrev pub outcome_of : ℕ → Entry → Outcome
outcome_of bytes e = executed bytes e.instruction e.address e.first e.second

abbrev pub outcome_at : Core → ℕ → Outcome
outcome_at m position = outcome_of m.setup.bytes (entry_at m position)

abbrev pub has_destination : Core → ℕ → Bool
has_destination m position = not (eqb (entry_at m position).destination 0)

-- "Otherwise a destination takes a free register."
abbrev pub needs_register : Core → ℕ → Bool
needs_register m position = not (eqb (entry_at m position).destination 0) && eqb (outcome_at m position).stop.cause 0

-- "If none is free"
abbrev pub none_free : Core → Bool
none_free m = eqb m.free_registers.head 0

-- 10 halted; 12 no entry there; 13 entry not issued; 16 no register free and no younger entry holds one, "only for a destination without a cause"
unfoldable pub complete_refusal : ℕ → Core → ℕ
complete_refusal position m =
    first
    (when (halted m) 10
    ∷ when (no_entry m position) 12
    ∷ when (not (is_issued (entry_at m position).state)) 13
    ∷ when (needs_register m position && none_free m && no_victim m position) 16
    ∷ [])

-- 16, for an entry without a cause
abbrev pub register_refusal : ℕ → Core → ℕ
register_refusal position m = when (has_destination m position && none_free m && no_victim m position) 16

-- the machine and the register with which an entry goes on: the head of the pool, or the victim's
abbrev pub register_for : Core → ℕ → ℕ
register_for m position = choose (none_free m) (held m.physical (entry_at m (victim_of m position))) m.free_registers.head

abbrev pub supplied_for : Core → ℕ → Core
supplied_for m position = choose (none_free m) (robbed (victim_of m position) m) m

-- "The new register gets the result, both maps learn it (the general map only if it still shows the name), and operands on that name, in entries of every state, become ready with that register." The pool is without its head, which an empty one has not.
unfoldable pub learned : ℕ → ℕ → ℕ → Core → Core
learned position register result m =
    let e : Entry = entry_at m position in
    change_all (wake_entry e.name register)
    (maps_learn e.destination e.name register true
    (with_values (store_under m.values register result) (take_register (place position (completed_entry result e) m))))

-- "(0 without a destination)"
abbrev pub registered : ℕ → ℕ → Core → Core
registered position result m =
    choose (eqb (entry_at m position).destination 0) (place position (completed_entry 0 (entry_at m position)) m)
    (learned position (register_for m position) result (supplied_for m position))

-- fetch goes to an address, and an entry's predicted next becomes it
unfoldable pub refetched : ℕ → ℕ → Core → Core
refetched position next m = with_fetch next (place position (predicted_entry next (entry_at m position)) m)

-- "Last, if actual and predicted next differ, all younger entries are dropped and fetch goes to actual; predicted becomes actual."
unfoldable pub redirected : ℕ → ℕ → Core → Core
redirected position next m = choose (eqb next (entry_at m position).predicted) m (refetched position next (drop_to (suc position) m))

abbrev pub finished : ℕ → Outcome → Core → Core
finished position outcome m =
    choose (eqb outcome.stop.cause 0)
    (redirected position outcome.next (registered position outcome.result m))
    (place position (stopped_entry outcome.stop (entry_at m position)) m)

abbrev pub completed : ℕ → Core → Core
completed position m = finished position (outcome_at m position) m

-- complete, where 5 and 6 do not apply
unfoldable pub complete_within : ℕ → Core → Answer
complete_within position m = answered m (complete_refusal position m) (completed position m)

unfoldable pub complete_of : List ℕ → List ℕ → ℕ → Core → Answer
complete_of program memory position m = answered m (in_turn (lent_refusal m program memory) (complete_refusal position m)) (completed position m)
