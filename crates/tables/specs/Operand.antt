-- "An operand is zero, waiting on a name, or ready with a name and a register."
use Rattle.std.specs.Prelude.{ℕ, Bool, true, false, List, eqb}
use Rattle.isa.specs.Reads.{choose}
use Rattle.tables.specs.Table.{look_up}
use Rattle.tables.specs.declared.Operand.{Operand}
use Rattle.tables.specs.declared.Operand.TheVariants.{Zero, Waiting, Ready}

-- an operand in numbers: 0 zero, 1 waiting, 2 ready; the name; the register
pub record OperandNumbers : Type 0 where
  pub kind : ℕ
  pub name : ℕ
  pub register : ℕ

abbrev pub operand_numbers : Operand → OperandNumbers
operand_numbers Zero = record { kind = 0; name = 0; register = 0 }
operand_numbers (Waiting name) = record { kind = 1; name = name; register = 0 }
operand_numbers (Ready name register) = record { kind = 2; name = name; register = register }

-- operands on a name become ready with a register
abbrev pub wake : ℕ → ℕ → Operand → Operand
wake name register Zero = Zero
wake name register (Waiting n) = choose (eqb n name) (Ready n register) (Waiting n)
wake name register (Ready n r) = choose (eqb n name) (Ready n register) (Ready n r)

-- operands on a name are waiting again
abbrev pub sleep : ℕ → Operand → Operand
sleep name Zero = Zero
sleep name (Waiting n) = Waiting n
sleep name (Ready n r) = choose (eqb n name) (Waiting n) (Ready n r)

abbrev pub is_ready : Operand → Bool
is_ready Zero = true
is_ready (Waiting n) = false
is_ready (Ready n r) = true

-- the value that an operand reads, 0 where it is zero or waits
abbrev pub value_of : List ℕ → Operand → ℕ
value_of values Zero = 0
value_of values (Waiting n) = 0
value_of values (Ready n r) = look_up values r

-- "operands come from the general map (ready if valid)"; x0 is zero
abbrev pub shown_operand : ℕ → ℕ → ℕ → Bool → Operand
shown_operand logical name register valid = choose (eqb logical 0) Zero (choose valid (Ready name register) (Waiting name))
