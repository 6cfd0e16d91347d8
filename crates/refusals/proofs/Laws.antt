-- What `?` hands on is the refusal that the callee answered, and its number is not 0.
use Rattle.std.proofs.Common.{◌≡◌, ap, arith, Result, Ok, Err}
use Rattle.std.specs.Result.{IsErrAnd}
use Rattle.refusals.specs.Numbers.{number}
use Rattle.refusals.specs.declared.Refusal.{Refusal}
use Rattle.refusals.proofs.NumberLaws.{number_positive}

pub number_some : (refusal : Refusal) → number refusal ≡ 0 → ⊥
number_some refusal e = omega (arith, number_positive refusal)

pub handed_on : {A : Type 0} (answer : Result A Refusal) (refusal : Refusal) → IsErrAnd answer (λ x. x ≡ refusal) → answer ≡ Err refusal
handed_on (Ok a) refusal h = absurd h
handed_on (Err x) refusal h = ap Err h
