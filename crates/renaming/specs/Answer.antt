-- "Each call takes the machine and hands back the next one, with 0 or a refusal."
use Rattle.std.specs.Prelude.{ℕ, Result}
use Rattle.refusals.specs.Numbers.{number_of}
use Rattle.refusals.specs.declared.Refusal.{Refusal}
use Rattle.renaming.specs.declared.Core.{Core}

pub record Answer : Type 0 where
  pub core : Core
  pub number : ℕ

-- a machine that was changed in place, with what the function answered
abbrev pub answer : {A : Type 0} → Core → Result A Refusal → Answer
answer core result = record { core = core; number = number_of result }
