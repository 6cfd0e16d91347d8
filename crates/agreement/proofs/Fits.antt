-- What every turn keeps of a world, whatever the run says: lengths, valid bits and set-up's numbers.
use Prim.Native.Nat.{ℕ, ◌-◌}
use mathlib.Core.Path.{◌≡◌, refl, sym, ap, subst, ◌∙◌}
use mathlib.Core.Bool.{true}
use mathlib.Core.List.{List}
use lib.ListN.{length}
use Rattle.reference.specs.Fetch.{fetch_at}
use Rattle.reference.proofs.Laws.{statement}
use Rattle.tables.specs.Entry.{stopped_entry, completed_entry, held}
use Rattle.tables.specs.declared.Entry.{Entry}
use Rattle.ranges.specs.Sizes.{setup_in_range}
use Rattle.renaming.specs.Changes.{entry_at, place}
use Rattle.renaming.specs.Drop.{drop_to}
use Rattle.decoding.specs.Decode.{entry_for}
use Rattle.issuing.specs.Issue.{issued}
use Rattle.completing.specs.Complete.{outcome_at, learned}
use Rattle.stealing.specs.Steal.{robbed}
use Rattle.committing.specs.Commit.{retired}
use Rattle.ranges.specs.declared.Setup.{Setup}
use Rattle.renaming.specs.declared.Core.{Core}
use Rattle.window.specs.Calls.{World, Made, made_by}
use Rattle.window.specs.declared.Call.{Call}
use Rattle.agreement.proofs.Kept.{Kept, kept_enter, kept_place, kept_robbed, kept_learned, kept_drops, kept_redirected, kept_retired, kept_halted}
use Rattle.agreement.proofs.Turns.{Turn, refused, enters, issues, ends, settles, takes, steals, retires, halts}
use Rattle.agreement.proofs.Steady.{Steady, steady_enter, steady_place, steady_learned, steady_robbed, steady_drops, steady_redirected, steady_retired, halted_setup}

pub record Fit (program : List ℕ) (w : World) : Type 0 where
  pub kept : Kept w.core
  pub setup : setup_in_range w.core.setup ≡ true
  pub sized : length program ≡ w.core.setup.program
  pub bytes : length w.memory ≡ w.core.setup.bytes

abbrev pub world : Core → List ℕ → World
world m memory = record { core = m; memory = memory }

pub steady_issued : (memory : List ℕ) (i : ℕ) (m : Core) → Steady m (issued memory i m)
unfolding issued
steady_issued memory i m = steady_place i _ m

kept_issued : (memory : List ℕ) (i : ℕ) (m : Core) → Kept m → Kept (issued memory i m)
unfolding issued
kept_issued memory i m k = kept_place m k i _

module _ (program : List ℕ) (w : World) (f : Fit program w) where
  fit_world : (m : Core) (memory : List ℕ) → Kept m → m.setup ≡ w.core.setup → length memory ≡ length w.memory → Fit program (world m memory)
  fit_world m memory k s l =
      record {
        kept = k;
        setup = ap setup_in_range s ∙ f.setup;
        sized = f.sized ∙ ap (λ (x : Setup). x.program) (sym s);
        bytes = l ∙ f.bytes ∙ ap (λ (x : Setup). x.bytes) (sym s);
      }

  as_made : (made : Made) (m : Core) (memory : List ℕ) (n : ℕ) → made ≡ made_by m memory n → Fit program (world m memory) → Fit program made.world
  as_made made m memory n e g = subst (λ (x : Made). Fit program x.world) (sym e) g

  pub fit_turn : (call : Call) (made : Made) → Turn program w call made → Fit program made.world
  fit_turn call made (refused n z e) = as_made made w.core w.memory n e f
  fit_turn call made (enters guess u r l e) =
      let m : Core = w.core in
      let x : Entry = entry_for m (fetch_at program m.fetch) guess in
      as_made made _ w.memory 0 e (fit_world _ w.memory (kept_enter m f.kept x l) (steady_enter x m).setup refl)
  fit_turn call made (issues i u h a b l e) =
      as_made made _ w.memory 0 e (fit_world _ w.memory (kept_issued w.memory i w.core f.kept) (steady_issued w.memory i w.core).setup refl)
  fit_turn call made (ends i u h z e) =
      let m : Core = w.core in
      let x : Entry = stopped_entry (outcome_at m i).stop (entry_at m i) in
      as_made made _ w.memory 0 e (fit_world (place i x m) w.memory (kept_place m f.kept i x) refl refl)
  fit_turn call made (settles i u h d e) =
      let m : Core = w.core in
      let x : Entry = completed_entry 0 (entry_at m i) in
      let n : ℕ = (outcome_at m i).next in
      as_made made _ w.memory 0 e (fit_world _ w.memory (kept_redirected i n (place i x m) (kept_place m f.kept i x)) (steady_redirected i n (place i x m)).setup refl)
  fit_turn call made (takes i u h d r e) =
      let m : Core = w.core in
      let n : ℕ = (outcome_at m i).next in
      let b : Core = learned i m.free_registers.head (outcome_at m i).result m in
      as_made made _ w.memory 0 e
      (fit_world _ w.memory (kept_redirected i n b (kept_learned m f.kept i m.free_registers.head (outcome_at m i).result r))
      ((steady_redirected i n b).setup ∙ (steady_learned i m.free_registers.head (outcome_at m i).result m).setup) refl)
  fit_turn call made (steals i v u h d r victim y t z e) =
      let m : Core = w.core in
      let n : ℕ = (outcome_at m i).next in
      let register : ℕ = held m.physical (entry_at m v) in
      let b : Core = learned i register (outcome_at m i).result (robbed v m) in
      as_made made _ w.memory 0 e
      (fit_world _ w.memory (kept_redirected i n b (kept_learned (robbed v m) (kept_robbed m f.kept v) i register (outcome_at m i).result z))
      ((steady_redirected i n b).setup ∙ (steady_learned i register (outcome_at m i).result (robbed v m)).setup ∙ (steady_robbed v m).setup) refl)
  fit_turn call made (retires u h c e) =
      let m : Core = w.core in
      let x : Entry = entry_at m 0 in
      as_made made _ _ 0 e (fit_world (retired m) _ (kept_retired m f.kept h.there) (steady_retired m).setup (statement.stored_length x.instruction x.first x.second w.memory))
  fit_turn call made (halts u h c e) =
      let m : Core = w.core in
      as_made made _ w.memory 0 e
      (fit_world _ w.memory (kept_halted (drop_to 0 m) (kept_drops (m.count - 0) m f.kept) (entry_at m 0).stop) (halted_setup (entry_at m 0).stop (drop_to 0 m) ∙ (steady_drops (m.count - 0) m).setup) refl)
