-- The instruction at an address, or a stop.
use Rattle.std.specs.Prelude.{ℕ, Bool, true, false, Result, Ok, Err, List, eqb, length}
use Rattle.word.specs.Bytes.{number, byte_of}
use Rattle.isa.specs.Reads.{choose, none, Numbers, read_of}
use Rattle.isa.specs.declared.Instruction.{Instruction}
use Rattle.execution.specs.Memory.{accessible}
use Rattle.execution.specs.Causes.{cause_number}
use Rattle.execution.specs.Execute.{stop}
use Rattle.execution.specs.declared.Cause.{Cause}
use Rattle.execution.specs.declared.Stop.{Stop}

-- a fetch in document 01's numbers: whether there is an instruction, the stop (cause 0 where there is one), the instruction
pub record FetchNumbers : Type 0 where
  pub found : Bool
  pub stop : Stop
  pub fields : Instruction

abbrev pub no_instruction : Stop → FetchNumbers
no_instruction why = record { found = false; stop = why; fields = none }

abbrev pub fetch_numbers : Result Instruction Cause → FetchNumbers
fetch_numbers (Ok i) = record { found = true; stop = stop 0; fields = i }
fetch_numbers (Err cause) = no_instruction (stop (cause_number cause))

-- "1 illegal" is the reading's own cause
abbrev pub of_reading : Numbers → FetchNumbers
of_reading n = record { found = eqb n.cause 0; stop = stop n.cause; fields = n.fields }

-- the word at an address of the program
abbrev pub has_word : List ℕ → ℕ → Bool
has_word program address = accessible (length program) address 4

abbrev pub word_at : List ℕ → ℕ → ℕ
word_at program address = number (byte_of program) address 4

-- "4 fetch address outside the program or not a multiple of 4"
abbrev pub outside : Stop
outside = stop 4

unfoldable pub fetch_at : List ℕ → ℕ → FetchNumbers
fetch_at program address = choose (has_word program address) (of_reading (read_of (word_at program address))) (no_instruction outside)
