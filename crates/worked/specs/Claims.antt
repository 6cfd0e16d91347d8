-- What a row of the table can claim: how a claim is tested, and what it says.
use Rattle.std.specs.Prelude.{ℕ, ◌≡◌, Bool, not, ◌&&◌, List, [], ◌∷◌, eqb, replicate}
use Rattle.isa.specs.Reads.{Numbers, read_of}
use Rattle.isa.specs.declared.Instruction.{Instruction}
use Rattle.execution.specs.declared.Alu.{Alu}
use Rattle.execution.specs.Execute.{compute, executed, Outcome}
use Rattle.reference.specs.Step.{State, Step, state, step_with}
use Rattle.window.specs.Calls.{World}
use Rattle.window.specs.declared.Call.{Call}
use Rattle.worked.specs.Same.{same_list, same_reading, same_outcome, same_step}
use Rattle.worked.specs.Calls.{after, further, answers}

-- registers 0, address 0, data 0, 1, …, 15
abbrev pub sixteen : State
sixteen = state (replicate 32 0) 0 (0 ∷ 1 ∷ 2 ∷ 3 ∷ 4 ∷ 5 ∷ 6 ∷ 7 ∷ 8 ∷ 9 ∷ 10 ∷ 11 ∷ 12 ∷ 13 ∷ 14 ∷ 15 ∷ [])

infixr 20 ◌and◌
infixr 10 ◌also◌
pub data Claim : Type 0 where
  -- what a word reads as
  reads : ℕ → Numbers → Claim
  -- an arithmetic function of two numbers, and the result
  computes : Alu → ℕ → ℕ → ℕ → Claim
  -- an instruction at address 0, its first value, and what comes of it
  executes : Instruction → ℕ → Outcome → Claim
  -- an instruction's step from sixteen
  steps : Instruction → Step → Claim
  -- the numbers that calls answer
  answer : List Call → List ℕ → Claim
  -- what is seen after calls
  show : List Call → (World → ℕ) → ℕ → Claim
  -- calls, a further one that is refused, and its number
  refuse : List Call → Call → ℕ → Claim
  -- two claims
  ◌and◌ : Claim → Claim → Claim

-- the test of a claim
unfoldable pub test : Claim → Bool
test (reads word reading) = same_reading (read_of word) reading
test (computes alu a b result) = eqb (compute alu a b) result
test (executes i value outcome) = same_outcome (executed 16 i 0 value 0) outcome
test (steps i step) = same_step (step_with i sixteen) step
test (answer calls numbers) = same_list (answers calls) numbers
test (show calls sight number) = eqb (sight (after calls)) number
test (refuse calls call number) = eqb (further calls call).number number && not (eqb number 0)
test (one and other) = test one && test other

-- both of two facts
abbrev pub ◌also◌ : Type 0 → Type 0 → Type 0
◌also◌ one other = one × other

-- the facts that a claim stands for
abbrev pub Says : Claim → Type 0
Says (reads word reading) = read_of word ≡ reading
Says (computes alu a b result) = compute alu a b ≡ result
Says (executes i value outcome) = executed 16 i 0 value 0 ≡ outcome
Says (steps i step) = step_with i sixteen ≡ step
Says (answer calls numbers) = answers calls ≡ numbers
Says (show calls sight number) = sight (after calls) ≡ number
Says (refuse calls call number) = ((further calls call).number ≡ number) also ((further calls call).world ≡ after calls)
Says (one and other) = Says one also Says other
