-- Demand 3: "For every list of decode, issue, complete and commit calls on a fresh machine, refused calls included and whatever the guesses and positions, this holds wherever the list breaks off."
use Rattle.std.specs.Prelude.{ℕ, ◌+◌, ◌≡◌, List, eqb}
use Rattle.isa.specs.Reads.{choose}
use Rattle.reference.specs.Run.{Run, run_of}
use Rattle.ranges.specs.declared.Setup.{Setup}
use Rattle.window.specs.Calls.{World}
use Rattle.window.specs.Report.{report_of}
use Rattle.agreement.specs.Lists.{Event, make_all, accepted_commits, Accepted, started, origin, CommitsWithin}

-- a machine and the data after a list, with the number of its accepted commits, and the run that was asked for as many steps
pub record Agrees (program : List ℕ) (w : World) (commits : ℕ) (run : Run) : Type 0 where
  -- "The committed registers x1–x31 as reported": x0 is 0 in both, and the report is not refused
  pub registers : report_of w.core ≡ record { registers = run.state.registers; number = 0 }
  -- "every data byte"
  pub memory : w.memory ≡ run.state.memory
  -- "the next address"
  pub next : w.core.next ≡ run.state.address
  -- "and the halt cause (0 for none) equal those of the in-order run"
  pub halt : w.core.halt ≡ run.stop
  -- "That run makes them all, or all but the last if the machine has halted."
  pub steps : commits ≡ run.steps + choose (eqb w.core.halt.cause 0) 0 1
  -- "Unless the machine has halted, at most four further calls, none of them refused, commit the next instruction or halt."
  pub onward : w.core.halt.cause ≡ 0 → CommitsWithin 4 program w

-- the list is cut where it breaks off; its run is "from zeroed registers, address 0 and the same starting data, asked for as many steps as the list had accepted commits"
abbrev pub Statement : Type 0
Statement =
    (s : Setup) (program memory : List ℕ) → Accepted s program memory → (events : List Event)
    → let start : World = started s memory in
    let commits : ℕ = accepted_commits program events start in
    Agrees program (make_all program events start) commits (run_of commits program (origin memory))
