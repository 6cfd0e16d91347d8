-- Tests for equality, made of tests on numbers.
use Rattle.std.specs.Prelude.{ℕ, Bool, true, false, ◌&&◌, List, [], ◌∷◌, eqb, ℤ, pos, negsuc}
use Rattle.isa.specs.Reads.{Numbers}
use Rattle.execution.specs.Execute.{Outcome}
use Rattle.isa.specs.declared.Instruction.{Instruction}
use Rattle.reference.specs.Step.{State, Step}

abbrev pub same_integer : ℤ → ℤ → Bool
same_integer (pos a) (pos b) = eqb a b
same_integer (pos a) (negsuc b) = false
same_integer (negsuc a) (pos b) = false
same_integer (negsuc a) (negsuc b) = eqb a b

unfoldable pub same_list : List ℕ → List ℕ → Bool
same_list [] [] = true
same_list [] (b ∷ others) = false
same_list (a ∷ more) [] = false
same_list (a ∷ more) (b ∷ others) = eqb a b && same_list more others

abbrev pub same_instruction : Instruction → Instruction → Bool
same_instruction i j =
    eqb i.operation j.operation && eqb i.rd j.rd && eqb i.rs1 j.rs1 && eqb i.rs2 j.rs2 && same_integer i.constant j.constant

abbrev pub same_reading : Numbers → Numbers → Bool
same_reading m n = eqb m.cause n.cause && same_instruction m.fields n.fields

abbrev pub same_outcome : Outcome → Outcome → Bool
same_outcome o p = eqb o.result p.result && eqb o.next p.next && eqb o.stop.cause p.stop.cause

abbrev pub same_state : State → State → Bool
same_state s t = same_list s.registers t.registers && eqb s.address t.address && same_list s.memory t.memory

abbrev pub same_step : Step → Step → Bool
same_step s t = same_state s.state t.state && eqb s.stop.cause t.stop.cause
