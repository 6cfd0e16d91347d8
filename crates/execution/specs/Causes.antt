-- The causes' numbers.
use Rattle.std.specs.Prelude.{ℕ}
use Rattle.execution.specs.declared.Cause.{Cause}
use Rattle.execution.specs.declared.Cause.TheVariants.{Illegal, EnvironmentCall, Breakpoint, Fetch, Target, Load, Store}

abbrev pub cause_number : Cause → ℕ
cause_number Illegal = 1
cause_number EnvironmentCall = 2
cause_number Breakpoint = 3
cause_number Fetch = 4
cause_number Target = 5
cause_number Load = 6
cause_number Store = 7
