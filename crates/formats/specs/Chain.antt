-- The chain of a schedule: its refusals and its events.
use Rattle.std.specs.Prelude.{ℕ, zero, suc, Bool, false, not, ◌&&◌, ◌||◌, List, [], ◌∷◌, leb, eqb}
use Rattle.isa.specs.Reads.{choose}
use Rattle.reference.specs.Step.{when, first}
use Rattle.formats.specs.Schedule.{record_at, records, first_index}
use Rattle.formats.specs.Kind.{decode_kind, issue_kind, complete_kind, commit_kind, unknown}
use Rattle.formats.specs.declared.Record.{Record}

abbrev pub unknown_kind : Record → Bool
unknown_kind r = unknown r.kind

-- "Position is zero in 1 and 4, guess is zero in 2, 3 and 4."
abbrev pub unwanted : Record → Bool
unwanted r =
    ((eqb r.kind decode_kind || eqb r.kind commit_kind) && not (eqb r.position 0))
    || ((eqb r.kind issue_kind || eqb r.kind complete_kind || eqb r.kind commit_kind) && not (eqb r.guess 0))

-- 24 and 25, for a record itself
unfoldable pub record_refusal : Record → ℕ
record_refusal r = first (when (unknown_kind r) 24 ∷ when (unwanted r) 25 ∷ [])

unfoldable pub is_met : ℕ → List ℕ → Bool
is_met index [] = false
is_met index (other ∷ met) = eqb index other || is_met index met

-- "record after record along the chain, 22 and 23 for the index that leads to it and 24 and 25 for itself";
-- "Next index zero ends the chain". The first number only bounds the recursion.
unfoldable pub chain_refusal : ℕ → List ℕ → List ℕ → ℕ → ℕ
chain_refusal zero schedule met index = 0
chain_refusal (suc n) schedule met index =
    choose (eqb index 0) 0
    (first
    (when (leb (records schedule) index) 22
    ∷ when (is_met index met) 23
    ∷ record_refusal (record_at schedule index)
    ∷ chain_refusal n schedule (index ∷ met) (record_at schedule index).next
    ∷ []))

abbrev pub schedule_refusal : List ℕ → ℕ
schedule_refusal schedule = chain_refusal (records schedule) schedule [] (first_index schedule)

-- the records along the chain, which are its events
unfoldable pub events_from : ℕ → List ℕ → ℕ → List Record
events_from zero schedule index = []
events_from (suc n) schedule index =
    choose (eqb index 0) [] (record_at schedule index ∷ events_from n schedule (record_at schedule index).next)

abbrev pub events_of : List ℕ → List Record
events_of schedule = events_from (records schedule) schedule (first_index schedule)
