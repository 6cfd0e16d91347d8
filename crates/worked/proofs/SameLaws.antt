-- What tests find the same is equal.
use Prim.Native.Nat.{ℕ}
use mathlib.Core.Path.{◌≡◌, refl, ap}
use mathlib.Core.Bool.{Bool, true, ◌&&◌}
use mathlib.Core.List.{List, [], ◌∷◌}
use borrow.Author.Tests.{eqb-true}
use lib.Dec.{eqb}
use lib.IntN.{ℤ, pos, negsuc}
use Rattle.laws.proofs.Bools.{impossible, and_left, and_right}
use Rattle.isa.specs.Reads.{Numbers, instruction}
use Rattle.isa.specs.declared.Instruction.{Instruction}
use Rattle.execution.specs.Execute.{stop, Outcome}
use Rattle.reference.specs.Step.{State, Step, state}
use Rattle.worked.specs.Same.{same_integer, same_list, same_instruction, same_reading, same_outcome, same_state, same_step}

-- both of two tests hold
parts : (a b : Bool) → a && b ≡ true → (a ≡ true) × (b ≡ true)
parts a b t = (and_left a b t, and_right a b t)

pub integer_same : (a b : ℤ) → same_integer a b ≡ true → a ≡ b
integer_same (pos a) (pos b) t = ap pos (eqb-true a b t)
integer_same (pos a) (negsuc b) t = impossible t
integer_same (negsuc a) (pos b) t = impossible t
integer_same (negsuc a) (negsuc b) t = ap negsuc (eqb-true a b t)

pub list_same : (more others : List ℕ) → same_list more others ≡ true → more ≡ others
unfolding same_list
list_same [] [] t = refl
list_same [] (b ∷ others) t = impossible t
list_same (a ∷ more) [] t = impossible t
list_same (a ∷ more) (b ∷ others) t = cc (eqb-true a b (and_left (eqb a b) (same_list more others) t), list_same more others (and_right (eqb a b) (same_list more others) t))

pub instruction_same : (i j : Instruction) → same_instruction i j ≡ true → i ≡ j
instruction_same i j t =
    let operation = eqb i.operation j.operation in
    let rd = eqb i.rd j.rd in
    let rs1 = eqb i.rs1 j.rs1 in
    let rs2 = eqb i.rs2 j.rs2 in
    let constant = same_integer i.constant j.constant in
    let (four, e) = parts (operation && rd && rs1 && rs2) constant t in
    let (three, d) = parts (operation && rd && rs1) rs2 four in
    let (two, c) = parts (operation && rd) rs1 three in
    let (a, b) = parts operation rd two in
    λ x.
    instruction (eqb-true i.operation j.operation a x) (eqb-true i.rd j.rd b x) (eqb-true i.rs1 j.rs1 c x) (eqb-true i.rs2 j.rs2 d x) (integer_same i.constant j.constant e x)

pub reading_same : (m n : Numbers) → same_reading m n ≡ true → m ≡ n
reading_same m n t =
    let (a, b) = parts (eqb m.cause n.cause) (same_instruction m.fields n.fields) t in
    λ x. record { cause = eqb-true m.cause n.cause a x; fields = instruction_same m.fields n.fields b x }

pub outcome_same : (o p : Outcome) → same_outcome o p ≡ true → o ≡ p
outcome_same o p t =
    let (two, c) = parts (eqb o.result p.result && eqb o.next p.next) (eqb o.stop.cause p.stop.cause) t in
    let (a, b) = parts (eqb o.result p.result) (eqb o.next p.next) two in
    λ x. record { result = eqb-true o.result p.result a x; next = eqb-true o.next p.next b x; stop = stop (eqb-true o.stop.cause p.stop.cause c x) }

pub state_same : (s t : State) → same_state s t ≡ true → s ≡ t
state_same s t e =
    let (two, c) = parts (same_list s.registers t.registers && eqb s.address t.address) (same_list s.memory t.memory) e in
    let (a, b) = parts (same_list s.registers t.registers) (eqb s.address t.address) two in
    λ x. state (list_same s.registers t.registers a x) (eqb-true s.address t.address b x) (list_same s.memory t.memory c x)

pub step_same : (s t : Step) → same_step s t ≡ true → s ≡ t
step_same s t e =
    let (a, b) = parts (same_state s.state t.state) (eqb s.stop.cause t.stop.cause) e in
    λ x. record { state = state_same s.state t.state a x; stop = stop (eqb-true s.stop.cause t.stop.cause b x) }
