-- A replay's rate is small, since a commit that is counted was accepted.
use Prim.Native.Nat.{ℕ, ◌≤◌}
use mathlib.Core.Path.{◌≡◌, sym, subst}
use mathlib.Core.List.{List}
use Rattle.formats.specs.Rate.{rate_of}
use Rattle.formats.specs.Chain.{events_of}
use Rattle.formats.proofs.RateLaws.{statement as rate_laws}
use Rattle.events.specs.Counts.{Played}
use Rattle.events.specs.Numbers.{played_by}
use Rattle.events.specs.Play.{played_from, played_of}
use Rattle.events.specs.declared.Counts.{Counts}
use Rattle.renaming.specs.declared.Core.{Core}
use Rattle.events.proofs.Laws.{statement as event_laws}

module _ (program memory schedule : List ℕ) where
  rate_at_most : let c : Counts = (played_of program memory schedule).counts in rate_of c.committed c.accepted ≤ 1_000
  unfolding played_of
  rate_at_most =
      let c : Counts = (played_of program memory schedule).counts in
      rate_laws.at_most c.committed c.accepted (event_laws.committed program (events_of schedule) (played_from program memory schedule).world)

  pub rate_small : (next : Core) (written : List ℕ) (counts : Counts) → played_by next written counts ≡ played_of program memory schedule → rate_of counts.committed counts.accepted ≤ 1_000
  rate_small next written counts q = subst (λ (x : Played). rate_of x.counts.committed x.counts.accepted ≤ 1_000) (sym q) rate_at_most
