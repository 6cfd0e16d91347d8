-- Each change of the machine keeps what holds of its entries between calls.
use Prim.Native.Nat.{ℕ, zero, suc, ◌+◌, ◌-◌, ◌<◌}
use mathlib.Core.Path.{◌≡◌, refl, sym, ap, ◌∙◌}
use mathlib.Core.Bool.{Bool, true, false}
use mathlib.Core.List.{List}
use native.Mathlib.Omega.{arith}
use lib.Dec.{eqb}
use lib.ListN.{set, drop}
use lib.Seq.{drop-set-lt, drop-drop}
use Rattle.laws.proofs.Bools.{impossible}
use Rattle.std.proofs.lemmas.List.Elements.{All-same, All-replicate, All-set, All-drop}
use Rattle.isa.specs.Reads.{choose}
use Rattle.execution.specs.declared.Stop.{Stop}
use Rattle.tables.specs.Entry.{empty_entry, is_waiting, issued_entry, stopped_entry, completed_entry, waiting_entry, predicted_entry, sleep_entry, wake_entry}
use Rattle.tables.specs.declared.Entry.{Entry}
use Rattle.ranges.specs.declared.Setup.{Setup}
use Rattle.renaming.specs.SetUp.{fresh_machine}
use Rattle.renaming.specs.Changes.{entry_at, place, change_first}
use Rattle.decoding.specs.Decode.{enter}
use Rattle.renaming.specs.Drop.{drop_youngest, drop_many, drop_to}
use Rattle.completing.specs.Complete.{learned, refetched, redirected}
use Rattle.stealing.specs.Steal.{robbed}
use Rattle.committing.specs.Commit.{halted_by, retired}
use Rattle.renaming.specs.declared.Core.{Core}
use Rattle.agreement.proofs.Kept.{Kept, kept_drop, kept_drops}
use Rattle.agreement.proofs.Views.{drops_count}
use Rattle.agreement.proofs.Rest.{Cleared, Empty, Rest, all_changed, behind_changed, emptied, moved_cleared, moved_past}

pub rest_fresh : (s : Setup) → Rest (fresh_machine s)
rest_fresh s = record { cleared = All-replicate Cleared 64 empty_entry (λ e. (refl, refl, refl)); past = All-replicate Empty 64 empty_entry refl }

-- an entry that does not wait
pub issued_cleared : (first second : ℕ) (e : Entry) → Cleared (issued_entry first second e)
issued_cleared first second e q = impossible (ap is_waiting q)

pub stopped_cleared : (why : Stop) (e : Entry) → Cleared (stopped_entry why e)
stopped_cleared why e q = impossible (ap is_waiting q)

pub completed_cleared : (result : ℕ) (e : Entry) → Cleared (completed_entry result e)
completed_cleared result e q = impossible (ap is_waiting q)

module _ (m : Core) (r : Rest m) where
  pub rest_enter : (e : Entry) → Cleared e → Rest (enter e m)
  unfolding enter
  rest_enter e c =
      let more : m.count + 1 ≡ suc m.count = omega arith in
      record {
        cleared = All-set Cleared m.entries m.count e c r.cleared;
        past = All-same Empty (drop (suc m.count) (set m.entries m.count e)) (drop 1 (drop m.count m.entries))
            (drop-set-lt (suc m.count) m.entries m.count e (omega arith) ∙ sym (drop-drop 1 m.count m.entries ∙ ap (λ (k : ℕ). drop k m.entries) more))
            (All-drop Empty 1 (drop m.count m.entries) r.past);
      }

  set_past : (position : ℕ) (e : Entry) → position < m.count → drop m.count (set m.entries position e) ≡ drop m.count m.entries
  set_past position e h = drop-set-lt m.count m.entries position e h

  pub rest_place : (position : ℕ) (e : Entry) → position < m.count → Cleared e → Rest (place position e m)
  rest_place position e h c =
      record {
        cleared = All-set Cleared m.entries position e c r.cleared;
        past = All-same Empty (drop m.count (set m.entries position e)) (drop m.count m.entries) (set_past position e h) r.past;
      }

  -- an entry is placed, and all change alike
  changed_past : (f : Entry → Entry) (position : ℕ) (e : Entry) → position < m.count → drop m.count (change_first m.count f (set m.entries position e)) ≡ drop m.count m.entries
  changed_past f position e h = behind_changed f m.count (set m.entries position e) ∙ set_past position e h

  pub rest_robbed : (victim : ℕ) → victim < m.count → Rest (robbed victim m)
  unfolding robbed
  rest_robbed victim h =
      let e : Entry = entry_at m victim in
      let after : List Entry = set m.entries victim (waiting_entry e) in
      record {
        cleared = all_changed (sleep_entry e.name) Cleared (λ x c. c) m.count after (All-set Cleared m.entries victim (waiting_entry e) (λ q. (refl, refl, refl)) r.cleared);
        past = All-same Empty (drop m.count (change_first m.count (sleep_entry e.name) after)) (drop m.count m.entries) (changed_past (sleep_entry e.name) victim (waiting_entry e) h) r.past;
      }

  pub rest_learned : (position register result : ℕ) → position < m.count → Rest (learned position register result m)
  unfolding learned
  rest_learned position register result h =
      let e : Entry = entry_at m position in
      let after : List Entry = set m.entries position (completed_entry result e) in
      record {
        cleared = all_changed (wake_entry e.name register) Cleared (λ x c. c) m.count after
            (All-set Cleared m.entries position (completed_entry result e) (completed_cleared result e) r.cleared);
        past = All-same Empty (drop m.count (change_first m.count (wake_entry e.name register) after)) (drop m.count m.entries)
            (changed_past (wake_entry e.name register) position (completed_entry result e) h) r.past;
      }

  pub rest_halted : (why : Stop) → Rest (halted_by why m)
  unfolding halted_by
  rest_halted why = record { cleared = r.cleared; past = r.past }

  module _ (k : Kept m) where
    pub rest_drop : Rest (drop_youngest m)
    unfolding drop_youngest
    rest_drop =
        let n = k.count in
        let w = k.window in
        let l = k.entries in
        record {
          cleared = All-set Cleared m.entries (m.count - 1) empty_entry (λ q. (refl, refl, refl)) r.cleared;
          past = emptied m.count m.entries (omega arith) r.past;
        }

    pub rest_refetched : (position next : ℕ) → position < m.count → Rest (refetched position next m)
    unfolding refetched
    rest_refetched position next h =
        let n = k.count in
        let w = k.window in
        let l = k.entries in
        let e : Entry = predicted_entry next (entry_at m position) in
        record {
          cleared = All-set Cleared m.entries position e (r.cleared position empty_entry (omega arith)) r.cleared;
          past = All-same Empty (drop m.count (set m.entries position e)) (drop m.count m.entries) (set_past position e h) r.past;
        }

    pub rest_retired : 0 < m.count → Rest (retired m)
    unfolding retired
    rest_retired some =
        let n = k.count in
        let w = k.window in
        let l = k.entries in
        record { cleared = moved_cleared m.count m.entries r.cleared; past = moved_past m.count m.entries some (omega arith) r.past }

pub rest_drops : (n : ℕ) (m : Core) → Rest m → Kept m → Rest (drop_many n m)
unfolding drop_many
rest_drops zero m r k = r
rest_drops (suc n) m r k = rest_drops n (drop_youngest m) (rest_drop m r k) (kept_drop m k)

pub rest_redirected : (position next : ℕ) (m : Core) → Rest m → Kept m → position < m.count → Rest (redirected position next m)
unfolding redirected
rest_redirected position next m r k h = at (eqb next (entry_at m position).predicted)
  where
    at : (b : Bool) → Rest (choose b m (refetched position next (drop_to (suc position) m)))
    at true = r
    at false =
        let n : ℕ = m.count - suc position in
        let c = drops_count n m in
        rest_refetched (drop_many n m) (rest_drops n m r k) (kept_drops n m k) position next (omega arith)
