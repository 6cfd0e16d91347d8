-- What the benchmark's functions come to.
use Rattle.std.specs.Prelude.{ℕ, ◌+◌, ◌*◌, ◌%◌, ◌^◌, List, eqb, leb, length, replicate, sum_by}
use Rattle.word.specs.Signed.{word_of}
use Rattle.isa.specs.Reads.{choose, read_of}
use Rattle.execution.specs.Execute.{stop}
use Rattle.reference.specs.Step.{State, state, length_refusal}
use Rattle.reference.specs.Run.{Run, run_of, ended}
use Rattle.timing.specs.declared.Timed.{Timed}

pub record Answer : Type 0 where
  pub answer : Timed
  pub memory : List ℕ

abbrev pub answer : Run → ℕ → Answer
answer r refusal = record { answer = record { steps = r.steps; cause = r.stop.cause; refusal = refusal }; memory = r.state.memory }

-- zero registers at address 0
abbrev pub start : List ℕ → State
start memory = state (replicate 32 0) 0 memory

-- calls of 65,535 steps each, one after the other, are one run of all those steps
unfoldable pub timed_of : ℕ → List ℕ → List ℕ → Answer
timed_of calls program memory =
    choose (eqb (length_refusal program memory) 0) (answer (run_of (calls * 65_535) program (start memory)) 0) (answer (ended (start memory) (stop 0)) (length_refusal program memory))

-- what a word reads as, in one number: its instruction's fields added up, the constant as a word; 0 for an illegal word
abbrev pub weight : ℕ → ℕ
weight w = let i = (read_of w).fields in i.operation + i.rd + i.rs1 + i.rs2 + word_of i.constant % 2 ^ 32

abbrev pub weights : List ℕ → ℕ
weights words = sum_by weight words

unfoldable pub read_of_all : ℕ → List ℕ → ℕ
read_of_all rounds words = choose (leb (length words) 4_096) (rounds * weights words) 0
