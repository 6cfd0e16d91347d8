-- The statement on a schedule's chain.
use Prim.Native.Nat.{ℕ, ◌+◌, ◌<◌}
use mathlib.Core.Path.{◌≡◌, sym, subst, ◌∙◌}
use mathlib.Core.Bool.{Bool, false}
use mathlib.Core.List.{List, []}
use native.Mathlib.Omega.{arith}
use lib.ListN.{length, replicate, length-replicate, get_or-replicate}
use Rattle.formats.specs.Schedule.{records, first_index}
use Rattle.formats.specs.Chain.{is_met, chain_refusal, schedule_refusal, events_from, events_of}
use Rattle.formats.specs.Statement.{Statement}
use Rattle.formats.proofs.Marks.{marked, same_walk}
use Rattle.formats.proofs.Unset.{unset_all}
use Rattle.formats.proofs.Bound.{Enough, enough}

-- no mark is set at the start
module _ (schedule : List ℕ) where
  abbrev none : List Bool
  none = replicate (records schedule) false

  walk : (n : ℕ) → marked n schedule none (first_index schedule) ≡ chain_refusal n schedule [] (first_index schedule)
  unfolding is_met
  walk n =
      same_walk schedule n none [] (first_index schedule) (omega (arith, length-replicate (records schedule) false)) (λ i l. get_or-replicate (records schedule) i false false l)

  start : (k : ℕ) → 0 < records schedule → Enough k schedule (records schedule) none (first_index schedule)
  start k some =
      enough k schedule (records schedule) none (first_index schedule) some (length-replicate (records schedule) false) (get_or-replicate (records schedule) 0 false false some)
      (omega (arith, unset_all (records schedule)))

  refusal_bound : (k : ℕ) → 0 < records schedule → chain_refusal (records schedule + k) schedule [] (first_index schedule) ≡ schedule_refusal schedule
  refusal_bound k some = sym (walk (records schedule + k)) ∙ (start k some).same ∙ walk (records schedule)

  events_bound : (k : ℕ) → 0 < records schedule → schedule_refusal schedule ≡ 0 → events_from (records schedule + k) schedule (first_index schedule) ≡ events_of schedule
  events_bound k some e = (start k some).events (walk (records schedule) ∙ e)

  events_fewer : 0 < records schedule → schedule_refusal schedule ≡ 0 → length (events_of schedule) < records schedule
  events_fewer some e =
      subst (λ (n : ℕ). length (events_of schedule) < n) (unset_all (records schedule)) ((start 0 some).fewer (walk (records schedule) ∙ e))

pub statement : Statement
statement = record { refusal_bound = refusal_bound; events_bound = events_bound; events_fewer = events_fewer }
