-- The oldest entry after each call that it needs.
use Prim.Native.Nat.{ℕ, zero, suc, ◌+◌, ◌-◌, ◌<◌}
use mathlib.Core.Path.{◌≡◌, refl, ap, ◌∙◌}
use mathlib.Core.List.{List}
use native.Mathlib.Omega.{arith}
use lib.Dec.{eqb}
use lib.ListN.{length, get_or, set, length-set}
use lib.Seq.{get_or-set_same, get_or-set_other}
use Rattle.reference.specs.Fetch.{FetchNumbers, fetch_at}
use Rattle.execution.specs.declared.Stop.{Stop}
use Rattle.execution.specs.Execute.{Outcome}
use Rattle.tables.specs.Entry.{empty_entry, completed_entry, stopped_entry, predicted_entry, waiting_entry, wake_entry, sleep_entry}
use Rattle.tables.specs.declared.State.{State as Stage}
use Rattle.tables.specs.declared.State.TheVariants.{Waits, Issued, Completed}
use Rattle.tables.specs.declared.Entry.{Entry}
use Rattle.renaming.specs.Changes.{entry_at, place}
use Rattle.renaming.specs.Drop.{drop_youngest, drop_many, drop_to}
use Rattle.decoding.specs.Decode.{entering_stop, started_entry, ended_entry, enter, decoded}
use Rattle.issuing.specs.Issue.{issued}
use Rattle.completing.specs.Complete.{outcome_at, none_free, register_for, supplied_for, learned, registered, refetched, redirected, completed}
use Rattle.stealing.specs.Steal.{victim_of, robbed}
use Rattle.renaming.specs.declared.Core.{Core}
use Rattle.renaming.proofs.DropLaws.{drop_count}
use Rattle.renaming.proofs.ChangeLaws.{change_length}
use Rattle.agreement.proofs.Turns.{At}
use Rattle.isa.proofs.ChoiceLaws.{by_choice}
use Rattle.agreement.proofs.Views.{drops_count}
use Rattle.agreement.proofs.Learns.{changed_at}
use Rattle.agreement.proofs.Steady.{steady_drops}

-- entries older than those dropped stay
drop_entry_lem : (m : Core) (j : ℕ) → j < m.count - 1 → entry_at (drop_youngest m) j ≡ entry_at m j
unfolding drop_youngest
drop_entry_lem m j h = get_or-set_other m.entries (m.count - 1) j empty_entry empty_entry (λ e. omega arith)

drops_entry : (n : ℕ) (m : Core) (j : ℕ) → j + n < m.count → entry_at (drop_many n m) j ≡ entry_at m j
unfolding drop_many
drops_entry zero m j h = refl
drops_entry (suc n) m j h = let c = drop_count m in drops_entry n (drop_youngest m) j (omega arith) ∙ drop_entry_lem m j (omega arith)

-- the oldest entry after each part of a call
module _ (m : Core) (room : 0 < length m.entries) where
  placed_at : (e : Entry) (s : Stage) → m.halt.cause ≡ 0 → 0 < m.count → e.state ≡ s → At (place 0 e m) 0 s
  placed_at e s r h q = record { runs = r; there = h; state = ap (λ (x : Entry). x.state) (get_or-set_same m.entries 0 e empty_entry room) ∙ q }

  pub issued_at : (memory : List ℕ) → At m 0 Waits → At (issued memory 0 m) 0 Issued
  unfolding issued
  issued_at memory a = placed_at _ Issued a.runs a.there refl

  learned_at : (register result : ℕ) → m.halt.cause ≡ 0 → 0 < m.count → At (learned 0 register result m) 0 Completed
  unfolding learned
  learned_at register result r h =
      let e : Entry = completed_entry result (entry_at m 0) in
      let l = length-set m.entries 0 e in
      record {
        runs = r;
        there = h;
        state = ap (λ (x : Entry). x.state) (changed_at (wake_entry (entry_at m 0).name register) m.count (set m.entries 0 e) 0 h (omega arith))
            ∙ ap (λ (x : Entry). x.state) (get_or-set_same m.entries 0 e empty_entry room);
      }

  refetched_at : (next : ℕ) → At m 0 Completed → At (refetched 0 next m) 0 Completed
  unfolding refetched
  refetched_at next a =
      record {
        runs = a.runs;
        there = a.there;
        state = ap (λ (x : Entry). x.state) (get_or-set_same m.entries 0 (predicted_entry next (entry_at m 0)) empty_entry room) ∙ a.state;
      }

drop_length : (m : Core) → length (drop_youngest m).entries ≡ length m.entries
unfolding drop_youngest
drop_length m = length-set m.entries (m.count - 1) empty_entry

drops_length : (n : ℕ) (m : Core) → length (drop_many n m).entries ≡ length m.entries
unfolding drop_many
drops_length zero m = refl
drops_length (suc n) m = drops_length n (drop_youngest m) ∙ drop_length m

redirected_at : (next : ℕ) (m : Core) → 0 < length m.entries → At m 0 Completed → At (redirected 0 next m) 0 Completed
unfolding redirected
redirected_at next m room a =
    let n : ℕ = m.count - 1 in
    let h = a.there in
    let c = drops_count n m in
    let l = drops_length n m in
    by_choice (λ (x : Core). At x 0 Completed) (eqb next (entry_at m 0).predicted) m (refetched 0 next (drop_to 1 m)) (λ e. a) (λ e.
    refetched_at (drop_to 1 m) (omega arith) next (record {
      runs = ap (λ (x : Stop). x.cause) (steady_drops n m).halt ∙ a.runs;
      there = omega arith;
      state = ap (λ (x : Entry). x.state) (drops_entry n m 0 (omega arith)) ∙ a.state;
    }))

-- a machine that runs, has an entry and room for it
record Runs (m : Core) : Type 0 where
  runs : m.halt.cause ≡ 0
  there : 0 < m.count
  room : 0 < length m.entries

robbed_runs : (v : ℕ) (m : Core) → Runs m → Runs (robbed v m)
unfolding robbed
robbed_runs v m r =
    record {
      runs = r.runs;
      there = r.there;
      room = let l = change_length (sleep_entry (entry_at m v).name) m.count (set m.entries v (waiting_entry (entry_at m v))) in let s = length-set m.entries v (waiting_entry (entry_at m v)) in let h = r.room in omega arith;
    }

learned_runs : (i register result : ℕ) (m : Core) → Runs m → Runs (learned i register result m)
unfolding learned
learned_runs i register result m r =
    let e : Entry = completed_entry result (entry_at m i) in
    record {
      runs = r.runs;
      there = r.there;
      room = let l = change_length (wake_entry (entry_at m i).name register) m.count (set m.entries i e) in let s = length-set m.entries i e in let h = r.room in omega arith;
    }

-- the entry is completed, whatever its register
record Registered (m : Core) : Type 0 where
  at : At m 0 Completed
  room : 0 < length m.entries

registered_at : (result : ℕ) (m : Core) → Runs m → Registered (registered 0 result m)
registered_at result m r =
    let e : Entry = completed_entry 0 (entry_at m 0) in
    let supplied : Runs (supplied_for m 0) = by_choice Runs (none_free m) (robbed (victim_of m 0) m) m (λ x. robbed_runs (victim_of m 0) m r) (λ x. r) in
    by_choice Registered (eqb (entry_at m 0).destination 0) (place 0 e m) (learned 0 (register_for m 0) result (supplied_for m 0))
    (λ x. record { at = placed_at m r.room e Completed r.runs r.there refl; room = let l = length-set m.entries 0 e in let h = r.room in omega arith })
    (λ x. record { at = learned_at (supplied_for m 0) supplied.room (register_for m 0) result supplied.runs supplied.there; room = (learned_runs 0 (register_for m 0) result (supplied_for m 0) supplied).room })

pub completed_at : (m : Core) → 0 < length m.entries → At m 0 Issued → At (completed 0 m) 0 Completed
completed_at m room a =
    let o : Outcome = outcome_at m 0 in
    let e : Entry = stopped_entry o.stop (entry_at m 0) in
    let r : Registered (registered 0 o.result m) = registered_at o.result m (record { runs = a.runs; there = a.there; room = room }) in
    by_choice (λ (x : Core). At x 0 Completed) (eqb o.stop.cause 0) (redirected 0 o.next (registered 0 o.result m)) (place 0 e m)
    (λ x. redirected_at o.next (registered 0 o.result m) r.room r.at) (λ x. placed_at m room e Completed a.runs a.there refl)

-- the first entry of an empty window
pub data Entered (m : Core) : Type 0 where
  waiting : At m 0 Waits → Entered m
  ended : At m 0 Completed → Entered m

entered_at : (e : Entry) (m : Core) (s : Stage) → 0 < length m.entries → m.halt.cause ≡ 0 → m.count ≡ 0 → e.state ≡ s → At (enter e m) 0 s
unfolding enter
entered_at e m s room r z q =
    record {
      runs = r;
      there = omega arith;
      state = ap (λ (x : Entry). x.state) (ap (λ (n : ℕ). get_or (set m.entries n e) 0 empty_entry) z ∙ get_or-set_same m.entries 0 e empty_entry room) ∙ q;
    }

pub decoded_at : (program : List ℕ) (guess : ℕ) (m : Core) → 0 < length m.entries → m.halt.cause ≡ 0 → m.count ≡ 0 → Entered (decoded program guess m)
decoded_at program guess m room r z =
    let f : FetchNumbers = fetch_at program m.fetch in
    let started : Entry = started_entry m f.fields guess in
    let over : Entry = ended_entry m.fetch f.fields (entering_stop f) in
    by_choice (λ (e : Entry). Entered (enter e m)) (eqb (entering_stop f).cause 0) started over (λ x. waiting (entered_at started m Waits room r z refl)) (λ x. ended (entered_at over m Completed room r z refl))
