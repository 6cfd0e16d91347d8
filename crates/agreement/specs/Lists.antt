-- Lists of calls.
use Rattle.std.specs.Prelude.{ℕ, zero, suc, ◌+◌, ◌≡◌, false, List, [], ◌∷◌, eqb, length, replicate}
use Rattle.isa.specs.Reads.{choose}
use Rattle.execution.specs.Execute.{onward}
use Rattle.reference.specs.Step.{State, state}
use Rattle.ranges.specs.Sizes.{set_up_refusal}
use Rattle.ranges.specs.declared.Setup.{Setup}
use Rattle.renaming.specs.SetUp.{fresh_machine}
use Rattle.renaming.specs.Call.{lengths_differ}
use Rattle.renaming.specs.declared.Core.{Core}
use Rattle.window.specs.Calls.{World, Made, made_by, call_of, make, needed_of, is_commit}
use Rattle.window.specs.declared.Call.{Call}
use Rattle.window.specs.declared.Call.TheVariants.{Decode as decode}

-- "a refused call stands in it like the rest, also one that 6 refuses because other lengths were lent": a call with the list's own program and data, or with other bytes
pub data Event : Type 0 where
  own : Call → Event
  other : Call → List ℕ → List ℕ → Event

-- "only these calls write the data": where other bytes were lent, the list's data stay
abbrev pub aside : World → Made → Made
aside w made = made_by made.world.core w.memory made.number

-- "Each call gets the machine that the one before handed back and, unless 6 refuses it, the same program and the data as the calls before left them": other bytes are lent only with other lengths
unfoldable pub make_event : List ℕ → Event → World → Made
make_event program (own call) w = make program call w
make_event program (other call bytes memory) w = choose (lengths_differ w.core bytes memory) (aside w (call_of bytes memory call w.core)) (make program call w)

-- "each call gets the machine that the one before it handed back, the program bytes stay the same and only these calls write the data"
unfoldable pub make_all : List ℕ → List Event → World → World
make_all program [] w = w
make_all program (e ∷ events) w = make_all program events (make_event program e w).world

abbrev pub call_in : Event → Call
call_in (own call) = call
call_in (other call bytes memory) = call

-- "Accepted means answered 0."
abbrev pub accepted_commit : Event → ℕ → ℕ
accepted_commit e number = choose (is_commit (call_in e)) (choose (eqb number 0) 1 0) 0

-- "as many steps as the list had accepted commits"
unfoldable pub accepted_commits : List ℕ → List Event → World → ℕ
accepted_commits program [] w = 0
accepted_commits program (e ∷ events) w = accepted_commit e (make_event program e w).number + accepted_commits program events (make_event program e w).world

-- "A list starts from the machine of any accepted set-up, with a program and data of the lengths given there"
pub record Accepted (s : Setup) (program memory : List ℕ) : Type 0 where
  pub set_up : set_up_refusal s ≡ 0
  pub program_length : length program ≡ s.program
  pub data_length : length memory ≡ s.bytes

-- "on a fresh machine"
abbrev pub started : Setup → List ℕ → World
started s memory = record { core = fresh_machine s; memory = memory }

-- "from zeroed registers, address 0 and the same starting data"
abbrev pub origin : List ℕ → State
origin memory = state (replicate 32 0) 0 memory

-- "The further calls: decode with guess fetch + 4 if the window is empty, then of issue 0, complete 0 and commit those that the entry's state still needs."
abbrev pub needed : Core → Call
needed m = choose (eqb m.count 0) (decode (onward m.fetch)) (needed_of m)

-- "at most four further calls, none of them refused, commit the next instruction or halt": at most n, the last a commit
unfoldable pub CommitsWithin : ℕ → List ℕ → World → Type 0
CommitsWithin zero program w = ⊥
CommitsWithin (suc n) program w =
    let made : Made = make program (needed w.core) w in
    (made.number ≡ 0) × ((is_commit (needed w.core) ≡ false) → CommitsWithin n program made.world)
