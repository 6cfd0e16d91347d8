-- Every list of calls keeps what holds of the entries between calls.
use Prim.Native.Nat.{ℕ, ◌-◌, ◌<◌}
use mathlib.Core.Path.{◌≡◌, refl, sym, subst}
use mathlib.Core.List.{List, [], ◌∷◌}
use lib.Dec.{eqb}
use Rattle.reference.specs.Fetch.{FetchNumbers, fetch_at}
use Rattle.tables.specs.Entry.{stopped_entry, completed_entry, held}
use Rattle.tables.specs.declared.Entry.{Entry}
use Rattle.renaming.specs.Changes.{entry_at, place}
use Rattle.decoding.specs.Decode.{entering_stop, started_entry, ended_entry, entry_for}
use Rattle.issuing.specs.Issue.{first_read, second_read, read_entry, issued}
use Rattle.completing.specs.Complete.{outcome_at, learned, redirected}
use Rattle.stealing.specs.Steal.{robbed}
use Rattle.renaming.specs.Drop.{drop_to}
use Rattle.renaming.specs.declared.Core.{Core}
use Rattle.window.specs.Calls.{World, Made, made_by}
use Rattle.window.specs.declared.Call.{Call}
use Rattle.agreement.specs.Lists.{Event, make_all, call_in, make_event}
use Rattle.isa.proofs.ChoiceLaws.{by_choice}
use Rattle.agreement.proofs.Kept.{Kept, kept_place, kept_robbed, kept_learned}
use Rattle.agreement.proofs.Turns.{Turn, refused, enters, issues, ends, settles, takes, steals, retires, halts, turn}
use Rattle.agreement.proofs.Fits.{Fit, fit_turn}
use Rattle.agreement.proofs.Rest.{Cleared, Rest}
use Rattle.agreement.proofs.RestChanges.{issued_cleared, stopped_cleared, completed_cleared, rest_enter, rest_place, rest_robbed, rest_learned, rest_halted, rest_retired, rest_drops, rest_redirected}

-- an entry enters without values and result
entering_cleared : (m : Core) (f : FetchNumbers) (guess : ℕ) → Cleared (entry_for m f guess)
entering_cleared m f guess =
    by_choice Cleared (eqb (entering_stop f).cause 0) (started_entry m f.fields guess) (ended_entry m.fetch f.fields (entering_stop f)) (λ e q. (refl, refl, refl)) (λ e q. (refl, refl, refl))

rest_issued : (memory : List ℕ) (i : ℕ) (m : Core) → Rest m → i < m.count → Rest (issued memory i m)
unfolding issued
rest_issued memory i m r h =
    let e : Entry = entry_at m i in
    rest_place m r i (read_entry m.values memory e) h (issued_cleared (first_read m.values e) (second_read m.values memory e) e)

-- an entry goes on with a register
robbed_there : (v i : ℕ) (m : Core) → i < m.count → i < (robbed v m).count
unfolding robbed
robbed_there v i m h = h

learned_there : (i register result : ℕ) (m : Core) → i < m.count → i < (learned i register result m).count
unfolding learned
learned_there i register result m h = h

rest_taken : (i next register result : ℕ) (m : Core) → Kept m → Rest m → (register ≡ 0 → ⊥) → i < m.count → Rest (redirected i next (learned i register result m))
rest_taken i next register result m k r z h =
    rest_redirected i next (learned i register result m) (rest_learned m r i register result h) (kept_learned m k i register result z) (learned_there i register result m h)

module _ (program : List ℕ) (w : World) (k : Kept w.core) (r : Rest w.core) where
  as_made : (made : Made) (m : Core) (memory : List ℕ) (n : ℕ) → made ≡ made_by m memory n → Rest m → Rest made.world.core
  as_made made m memory n e g = subst (λ (x : Made). Rest x.world.core) (sym e) g

  pub rest_turn : (call : Call) (made : Made) → Turn program w call made → Rest made.world.core
  rest_turn call made (refused n z e) = as_made made w.core w.memory n e r
  rest_turn call made (enters guess u h l e) =
      let x : Entry = entry_for w.core (fetch_at program w.core.fetch) guess in
      as_made made _ w.memory 0 e (rest_enter w.core r x (entering_cleared w.core (fetch_at program w.core.fetch) guess))
  rest_turn call made (issues i u h a b l e) = as_made made _ w.memory 0 e (rest_issued w.memory i w.core r h.there)
  rest_turn call made (ends i u h z e) =
      let m : Core = w.core in
      as_made made _ w.memory 0 e (rest_place m r i (stopped_entry (outcome_at m i).stop (entry_at m i)) h.there (stopped_cleared (outcome_at m i).stop (entry_at m i)))
  rest_turn call made (settles i u h d e) =
      let m : Core = w.core in
      let x : Entry = completed_entry 0 (entry_at m i) in
      as_made made _ w.memory 0 e
      (rest_redirected i (outcome_at m i).next (place i x m) (rest_place m r i x h.at.there (completed_cleared 0 (entry_at m i))) (kept_place m k i x) h.at.there)
  rest_turn call made (takes i u h d z e) =
      let m : Core = w.core in
      let o : ℕ = (outcome_at m i).result in
      let free : ℕ = m.free_registers.head in
      as_made made _ w.memory 0 e (rest_taken i (outcome_at m i).next free o m k r z h.at.there)
  rest_turn call made (steals i v u h d z victim y t some e) =
      let m : Core = w.core in
      let o : ℕ = (outcome_at m i).result in
      let register : ℕ = held m.physical (entry_at m v) in
      as_made made _ w.memory 0 e (rest_taken i (outcome_at m i).next register o (robbed v m) (kept_robbed m k v) (rest_robbed m r v t) some (robbed_there v i m h.at.there))
  rest_turn call made (retires u h c e) = as_made made _ _ 0 e (rest_retired w.core r k h.there)
  rest_turn call made (halts u h c e) =
      let m : Core = w.core in
      as_made made _ w.memory 0 e (rest_halted (drop_to 0 m) (rest_drops (m.count - 0) m r k) (entry_at m 0).stop)

-- every list
pub rest_all : (program : List ℕ) (events : List Event) (w : World) → Fit program w → Rest w.core → Rest (make_all program events w).core
unfolding make_all
rest_all program [] w f r = r
rest_all program (e ∷ events) w f r =
    let made : Made = make_event program e w in
    rest_all program events made.world (fit_turn program w f (call_in e) made (turn program e w)) (rest_turn program w f.kept r (call_in e) made (turn program e w))
