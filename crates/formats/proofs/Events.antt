-- The events of a chain, one record after the other.
use Prim.Native.Nat.{ℕ, suc}
use mathlib.Core.Path.{◌≡◌, refl}
use mathlib.Core.List.{List, [], ◌∷◌}
use borrow.Author.Tests.{eq-eqb, ne_eqb}
use Rattle.formats.specs.Schedule.{record_at}
use Rattle.formats.specs.Chain.{events_from}

pub events_none : (schedule : List ℕ) (index : ℕ) → events_from 0 schedule index ≡ []
unfolding events_from
events_none schedule index = refl

pub events_ended : (n : ℕ) (schedule : List ℕ) (index : ℕ) → index ≡ 0 → events_from (suc n) schedule index ≡ []
unfolding events_from
events_ended n schedule index z = rw (eq-eqb index 0 z)

pub events_on : (n : ℕ) (schedule : List ℕ) (index : ℕ) → (index ≡ 0 → ⊥) → events_from (suc n) schedule index ≡ record_at schedule index ∷ events_from n schedule (record_at schedule index).next
unfolding events_from
events_on n schedule index z = rw (ne_eqb index 0 z)
