-- What a name stands for, which no table of the machine holds: it is settled when the name is taken and changes no more.
use Prim.Native.Nat.{ℕ, ◌<◌}
use mathlib.Core.Path.{◌≡◌}
use mathlib.Core.List.{List}
use lib.ListN.{length, get_or}
use Rattle.reference.specs.Step.{read_register}

-- by name: its value, and the logical register that it was taken for
pub record Ghost : Type 0 where
  pub value : List ℕ
  pub writer : List ℕ

-- the names of a map were taken for the registers under which they stand
pub record Writers (g : Ghost) (names : List ℕ) : Type 0 where
  pub writers : (r : ℕ) → r < 32 → get_or g.writer (get_or names r 0) 0 ≡ r
  pub size : length names ≡ 32

-- they stand for the values of the registers
pub record Agree (g : Ghost) (names registers : List ℕ) : Type 0 where
  pub values : (r : ℕ) → r < 32 → get_or g.value (get_or names r 0) 0 ≡ read_register registers r
  pub size : length registers ≡ 32
