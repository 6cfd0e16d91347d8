-- "Who meets which refusal": the numbers.
use Rattle.std.specs.Prelude.{ℕ, Result, Ok, Err}
use Rattle.refusals.specs.declared.Refusal.{Refusal}
use Rattle.refusals.specs.declared.Refusal.TheVariants.{WindowSize, RegisterCount, ProgramLength, DataLength, OutOfRange, LentLength, Halted, WindowFull, NoEntry, WrongState, OperandNotReady, OlderStore, NoRegister, ScheduleLength, FirstRecord, NextBeyondFile, RecordReachedTwice, UnknownKind, FieldNotZero, ResultLength, Encoding}

abbrev pub number : Refusal → ℕ
number WindowSize = 1
number RegisterCount = 2
number ProgramLength = 3
number DataLength = 4
number OutOfRange = 5
number LentLength = 6
number Halted = 10
number WindowFull = 11
number NoEntry = 12
number WrongState = 13
number OperandNotReady = 14
number OlderStore = 15
number NoRegister = 16
number ScheduleLength = 20
number FirstRecord = 21
number NextBeyondFile = 22
number RecordReachedTwice = 23
number UnknownKind = 24
number FieldNotZero = 25
number ResultLength = 26
number Encoding = 30

-- 0 for what is accepted, else the refusal's number
abbrev pub number_of : {A : Type 0} → Result A Refusal → ℕ
number_of (Ok a) = 0
number_of (Err refusal) = number refusal
