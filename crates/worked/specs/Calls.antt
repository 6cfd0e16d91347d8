-- "W 2, N 32, two ADDI to x1 and x2": lists of calls on the machine of that set-up, and what is seen of the machine after them.
use Rattle.std.specs.Prelude.{ℕ, List, [], ◌∷◌, ◌++◌, map, pos, length, replicate}
use Rattle.word.specs.Bytes.{put}
use Rattle.isa.specs.Reads.{instruction}
use Rattle.isa.specs.Encodes.{word_of}
use Rattle.tables.specs.Table.{look_up}
use Rattle.tables.specs.Entry.{state_number}
use Rattle.ranges.specs.Sizes.{setup_of}
use Rattle.renaming.specs.SetUp.{set_up_of}
use Rattle.renaming.specs.Changes.{entry_at}
use Rattle.window.specs.Calls.{World, Made, make}
use Rattle.window.specs.declared.Call.{Call}
use Rattle.window.specs.declared.Call.TheVariants.{Decode as decode, Issue as issue, Complete as complete, Commit as commit}
use Rattle.agreement.specs.Lists.{own, make_all}

-- ADDI x1, x0, 1 and ADDI x2, x0, 2
abbrev pub two_addi : List ℕ
two_addi = put (put (replicate 8 0) 0 4 (word_of (instruction 19 1 0 0 (pos 1)))) 4 4 (word_of (instruction 19 2 0 0 (pos 2)))

-- the machine of the set-up; there are no data
abbrev pub begun : World
begun = record { core = (set_up_of (setup_of 2 32 (length two_addi) 0)).core; memory = [] }

-- the machine, with the data, after these calls
abbrev pub after : List Call → World
after calls = make_all two_addi (map own calls) begun

-- one call more
abbrev pub further : List Call → Call → Made
further calls call = make two_addi call (after calls)

-- the numbers that calls answer, each in its turn
unfoldable pub answers_from : World → List Call → List ℕ
answers_from w [] = []
answers_from w (call ∷ calls) = (make two_addi call w).number ∷ answers_from (make two_addi call w).world calls

abbrev pub answers : List Call → List ℕ
answers calls = answers_from begun calls

-- the register that the physical map gives the name of the entry at a position, 0 for none
abbrev pub register_at : ℕ → World → ℕ
register_at position w = look_up w.core.physical (entry_at w.core position).name

-- its destination
abbrev pub destination_at : ℕ → World → ℕ
destination_at position w = (entry_at w.core position).destination

-- its state: 0 waiting, 1 issued, 2 completed
abbrev pub state_at : ℕ → World → ℕ
state_at position w = state_number (entry_at w.core position).state

-- the register that would be taken next, 0 from an empty pool
abbrev pub free_register : World → ℕ
free_register w = w.core.free_registers.head

abbrev pub next_address : World → ℕ
next_address w = w.core.next

-- two instructions that wait to be completed
abbrev pub both_issued : List Call
both_issued = decode 0 ∷ decode 0 ∷ issue 0 ∷ issue 1 ∷ []

-- (k) "position 1 completes first"
abbrev pub younger_first : List Call
younger_first = both_issued ++ complete 1 ∷ []

-- "position 0 steals"
abbrev pub robbing : List Call
robbing = younger_first ++ complete 0 ∷ []

-- "commit"
abbrev pub committing : List Call
committing = robbing ++ commit ∷ []

-- "the other then", at position 0 now
abbrev pub again : List Call
again = committing ++ issue 0 ∷ complete 0 ∷ []

-- (l) "In the other order"
abbrev pub older_first : List Call
older_first = both_issued ++ complete 0 ∷ []
