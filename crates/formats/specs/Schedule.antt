-- Schedules: "Records of 8 bytes: kind, position, next index (2 bytes), guess (4 bytes), little endian."
use Rattle.std.specs.Prelude.{ℕ, ◌+◌, ◌*◌, ◌/◌, ◌%◌, Bool, not, ◌&&◌, List, [], ◌∷◌, leb, eqb, length}
use Rattle.word.specs.Bytes.{number, byte_of}
use Rattle.reference.specs.Step.{when, first}
use Rattle.formats.specs.declared.Record.{Record}

abbrev pub record_length : ℕ
record_length = 8

unfoldable pub record_at : List ℕ → ℕ → Record
record_at schedule index =
    record {
      kind = number (byte_of schedule) (record_length * index) 1;
      position = number (byte_of schedule) (record_length * index + 1) 1;
      next = number (byte_of schedule) (record_length * index + 2) 2;
      guess = number (byte_of schedule) (record_length * index + 4) 4;
    }

abbrev pub records : List ℕ → ℕ
records schedule = length schedule / record_length

abbrev pub longest : ℕ
longest = 65_536

-- refusal 20: "length 0, above 65,536 or no multiple of 8"
abbrev pub schedule_fits : ℕ → Bool
schedule_fits bytes = leb 1 bytes && leb bytes longest && eqb (bytes % record_length) 0

-- "Record 0: kind 0, W, first index, then N in one byte and three zeros; kind or zeros wrong is 21."
abbrev pub window_in : List ℕ → ℕ
window_in schedule = number (byte_of schedule) 1 1

abbrev pub first_index : List ℕ → ℕ
first_index schedule = number (byte_of schedule) 2 2

abbrev pub registers_in : List ℕ → ℕ
registers_in schedule = number (byte_of schedule) 4 1

abbrev pub malformed : List ℕ → Bool
malformed schedule = not (eqb (number (byte_of schedule) 0 1) 0 && eqb (number (byte_of schedule) 5 3) 0)

unfoldable pub head_refusal : List ℕ → ℕ
head_refusal schedule = first (when (not (schedule_fits (length schedule))) 20 ∷ when (malformed schedule) 21 ∷ [])
