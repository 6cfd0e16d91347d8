-- What the operands, the physical map and the values say of each other.
use Prim.Native.Nat.{ℕ}
use mathlib.Core.Path.{◌≡◌}
use mathlib.Core.Logic.{◌≢◌}
use mathlib.Core.List.{List}
use lib.ListN.{length, get_or}
use Rattle.std.specs.List.{All}
use Rattle.tables.specs.declared.Operand.{Operand}
use Rattle.tables.specs.declared.State.{State as Stage}
use Rattle.tables.specs.declared.State.TheVariants.{Completed}
use Rattle.tables.specs.declared.Entry.{Entry}
use Rattle.agreement.proofs.View.{operand_for, name_in}
use Rattle.agreement.proofs.Ghost.{Ghost}

-- operands show what the physical map gives their names
pub record Shown (physical : List ℕ) (one two : Operand) : Type 0 where
  pub left : one ≡ operand_for (name_in one) (get_or physical (name_in one) 0)
  pub right : two ≡ operand_for (name_in two) (get_or physical (name_in two) 0)

abbrev pub ShownIn : List ℕ → Entry → Type 0
ShownIn physical e = Shown physical e.left e.right

-- an entry's name has a register exactly if the entry is completed without a cause and has a destination
pub data Holds (physical : List ℕ) (state : Stage) (cause name : ℕ) : Type 0 where
  holding : state ≡ Completed → cause ≡ 0 → name ≢ 0 → get_or physical name 0 ≢ 0 → Holds physical state cause name
  without : state ≡ Completed → cause ≡ 0 → name ≡ 0 → Holds physical state cause name
  stopped : state ≡ Completed → cause ≢ 0 → get_or physical name 0 ≡ 0 → Holds physical state cause name
  early : state ≢ Completed → get_or physical name 0 ≡ 0 → Holds physical state cause name

abbrev pub HoldsIn : List ℕ → Entry → Type 0
HoldsIn physical e = Holds physical e.state e.stop.cause e.name

-- a name's register holds the value that the name stands for; name 0 has none
pub record Valued (g : Ghost) (physical values : List ℕ) : Type 0 where
  pub held : (n : ℕ) → get_or physical n 0 ≢ 0 → get_or values (get_or physical n 0) 0 ≡ get_or g.value n 0
  pub zero_register : get_or physical 0 0 ≡ 0
  pub zero_value : get_or g.value 0 0 ≡ 0

pub record Contents (g : Ghost) (physical values : List ℕ) (entries : List Entry) : Type 0 where
  pub shown : All (ShownIn physical) entries
  pub holds : All (HoldsIn physical) entries
  pub valued : Valued g physical values

-- the general map's registers are those of its names
pub record GeneralMap (physical names registers : List ℕ) : Type 0 where
  pub gives : (r : ℕ) → get_or registers r 0 ≡ get_or physical (get_or names r 0) 0
  pub size : length registers ≡ 32
