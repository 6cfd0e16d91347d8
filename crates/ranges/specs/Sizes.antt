-- The sizes of a machine, W, N and the lengths of program and data: refusals 1 to 4.
use Rattle.std.specs.Prelude.{ℕ, ◌+◌, Bool, not, ◌&&◌, [], ◌∷◌, leb}
use Rattle.reference.specs.Step.{when, first, program_fits, data_fits}
use Rattle.ranges.specs.declared.Setup.{Setup}

abbrev pub setup_of : ℕ → ℕ → ℕ → ℕ → Setup
setup_of window registers program bytes = record { window = window; registers = registers; program = program; bytes = bytes }

-- "Window W (1–64) entries"
abbrev pub most_entries : ℕ
most_entries = 64

abbrev pub window_fits : ℕ → Bool
window_fits window = leb 1 window && leb window most_entries

-- "Physical registers 1 to N (N 32–95)."
abbrev pub most_registers : ℕ
most_registers = 95

abbrev pub registers_fit : ℕ → Bool
registers_fit registers = leb 32 registers && leb registers most_registers

-- "each logical register 1–31"
abbrev pub last_logical : ℕ
last_logical = 31

-- "Virtual names 1 to 31 + W."
abbrev pub names_of : ℕ → ℕ
names_of window = last_logical + window

-- "1 W out of range; 2 N out of range; 3 program length; 4 data length"
unfoldable pub set_up_refusal : Setup → ℕ
set_up_refusal s =
    first
    (when (not (window_fits s.window)) 1
    ∷ when (not (registers_fit s.registers)) 2
    ∷ when (not (program_fits s.program)) 3
    ∷ when (not (data_fits s.bytes)) 4
    ∷ [])

-- "W, N, lengths"
abbrev pub setup_in_range : Setup → Bool
setup_in_range s = window_fits s.window && registers_fit s.registers && program_fits s.program && data_fits s.bytes
