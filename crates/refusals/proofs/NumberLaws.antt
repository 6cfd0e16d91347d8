-- A refusal's number says which refusal it is, and that it is one.
use Rattle.std.specs.Prelude.{ℕ, zero, suc, ◌<◌, List, [], ◌∷◌, get_or}
use mathlib.Core.Path.{◌≡◌, refl, sym, ap, ◌∙◌}
use native.Mathlib.Omega.{arith}
use Rattle.refusals.specs.Numbers.{number}
use Rattle.refusals.specs.declared.Refusal.{Refusal}
use Rattle.refusals.specs.declared.Refusal.TheVariants.{WindowSize, RegisterCount, ProgramLength, DataLength, OutOfRange, LentLength, Halted, WindowFull, NoEntry, WrongState, OperandNotReady, OlderStore, NoRegister, ScheduleLength, FirstRecord, NextBeyondFile, RecordReachedTwice, UnknownKind, FieldNotZero, ResultLength, Encoding}

-- the refusals at their numbers, the first one in the gaps
abbrev places : List Refusal
places =
    WindowSize
    ∷ WindowSize
    ∷ RegisterCount
    ∷ ProgramLength
    ∷ DataLength
    ∷ OutOfRange
    ∷ LentLength
    ∷ WindowSize
    ∷ WindowSize
    ∷ WindowSize
    ∷ Halted
    ∷ WindowFull
    ∷ NoEntry
    ∷ WrongState
    ∷ OperandNotReady
    ∷ OlderStore
    ∷ NoRegister
    ∷ WindowSize
    ∷ WindowSize
    ∷ WindowSize
    ∷ ScheduleLength
    ∷ FirstRecord
    ∷ NextBeyondFile
    ∷ RecordReachedTwice
    ∷ UnknownKind
    ∷ FieldNotZero
    ∷ ResultLength
    ∷ WindowSize
    ∷ WindowSize
    ∷ WindowSize
    ∷ Encoding
    ∷ []

abbrev of_number : ℕ → Refusal
of_number n = get_or places n WindowSize

back : (refusal : Refusal) → of_number (number refusal) ≡ refusal
back WindowSize = refl
back RegisterCount = refl
back ProgramLength = refl
back DataLength = refl
back OutOfRange = refl
back LentLength = refl
back Halted = refl
back WindowFull = refl
back NoEntry = refl
back WrongState = refl
back OperandNotReady = refl
back OlderStore = refl
back NoRegister = refl
back ScheduleLength = refl
back FirstRecord = refl
back NextBeyondFile = refl
back RecordReachedTwice = refl
back UnknownKind = refl
back FieldNotZero = refl
back ResultLength = refl
back Encoding = refl

pub number_injective : (a b : Refusal) → number a ≡ number b → a ≡ b
number_injective a b e = sym (back a) ∙ ap of_number e ∙ back b

pub number_positive : (refusal : Refusal) → 0 < number refusal
number_positive refusal = at (number refusal) refl
  where
    at : (n : ℕ) → number refusal ≡ n → 0 < n
    at zero e = let first : refusal ≡ WindowSize = sym (back refusal) ∙ ap of_number e in absurd (omega (arith, ap number first))
    at (suc n) e = omega arith
