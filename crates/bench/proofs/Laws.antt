-- A replay that is not refused counts every event and agrees with the in-order run.
use Prim.Native.Nat.{ℕ}
use mathlib.Core.Path.{◌≡◌, refl, sym, subst}
use mathlib.Core.List.{List}
use native.Mathlib.Omega.{arith}
use Rattle.reference.specs.Run.{run_of}
use Rattle.window.specs.Calls.{World}
use Rattle.agreement.specs.Lists.{accepted_commits, origin}
use Rattle.agreement.specs.Statement.{Agrees}
use Rattle.agreement.proofs.Demand.{statement as demand}
use Rattle.formats.specs.Chain.{events_of}
use Rattle.events.specs.Play.{setup_in, played_from, played_of}
use Rattle.events.specs.Statement.{calls_of}
use Rattle.events.proofs.Laws.{statement as event_laws}
use Rattle.formats.specs.Result.{result_length}
use Rattle.bench.specs.Replay.{replay_refusal}
use Rattle.bench.specs.Statement.{Statement}
use Rattle.bench.proofs.RefusalLaws.{unrefused}

agrees : (program memory schedule : List ℕ) → replay_refusal program memory schedule result_length ≡ 0
    → let commits : ℕ = accepted_commits program (calls_of (events_of schedule)) (played_from program memory schedule).world in
    Agrees program (played_of program memory schedule).world commits (run_of commits program (origin memory))
unfolding played_of
agrees program memory schedule none =
    let begun : World = (played_from program memory schedule).world in
    let calls = calls_of (events_of schedule) in
    let commits : ℕ = accepted_commits program calls begun in
    let set_up = (unrefused program memory schedule result_length none).set_up in
    subst (λ (w : World). Agrees program w commits (run_of commits program (origin memory))) (sym (event_laws.world program (events_of schedule) begun))
    (demand (setup_in program memory schedule) program memory (record { set_up = set_up; program_length = refl; data_length = refl }) calls)

committed : (program memory schedule : List ℕ) → replay_refusal program memory schedule result_length ≡ 0
    → let commits : ℕ = accepted_commits program (calls_of (events_of schedule)) (played_from program memory schedule).world in
    (played_of program memory schedule).counts.committed ≡ (run_of commits program (origin memory)).steps
unfolding played_of
committed program memory schedule none =
    let counts = event_laws.commits program (events_of schedule) (played_from program memory schedule).world refl in
    let run = (agrees program memory schedule none).steps in
    omega arith

pub statement : Statement
unfolding played_of
statement =
    record {
      counted = λ program memory schedule none. event_laws.counted program (events_of schedule) (played_from program memory schedule).world;
      agrees = agrees;
      committed = committed;
    }
