-- What a refused replay comes to.
use Prim.Native.Nat.{ℕ}
use mathlib.Core.Path.{◌≡◌}
use mathlib.Core.List.{List}
use borrow.Author.Tests.{ne_eqb}
use lib.ListN.{length}
use Rattle.reference.specs.Step.{first, length_refusal}
use Rattle.bench.specs.Replay.{replay_refusal, nothing, replay_of}

module _ (program memory schedule : List ℕ) where
  pub lengths_stop : (size n : ℕ) → n ≡ length_refusal program memory → (n ≡ 0 → ⊥) → n ≡ replay_refusal program memory schedule size
  unfolding replay_refusal first
  lengths_stop size n e z = rw (← e, ne_eqb n 0 z)

  pub replay_refused : (result : List ℕ) (number : ℕ) → number ≡ replay_refusal program memory schedule (length result) → (number ≡ 0 → ⊥)
      → replay_of program memory schedule result ≡ record { answer = nothing number; memory = memory; result = result }
  unfolding replay_of
  replay_refused result number e z = rw (← e, ne_eqb number 0 z)
