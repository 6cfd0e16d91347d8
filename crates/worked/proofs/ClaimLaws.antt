-- A claim whose test holds says what is true.
use Prim.Native.Nat.{ℕ}
use mathlib.Core.Path.{◌≡◌, sym, ◌∙◌}
use mathlib.Core.Bool.{true, not}
use mathlib.Core.List.{List}
use borrow.Author.Tests.{eqb-true, eqb-false, not-true}
use lib.Dec.{eqb}
use Rattle.laws.proofs.Bools.{and_left, and_right}
use Rattle.isa.specs.Reads.{read_of}
use Rattle.execution.specs.Execute.{compute, executed}
use Rattle.reference.specs.Step.{step_with}
use Rattle.window.specs.declared.Call.{Call}
use Rattle.worked.specs.Calls.{two_addi, after, further, answers}
use Rattle.worked.specs.Claims.{Claim, reads, computes, executes, steps, answer, show, refuse, ◌and◌, sixteen, test, Says}
use Rattle.worked.proofs.SameLaws.{list_same, reading_same, outcome_same, step_same}
use Rattle.worked.proofs.RefusedLaws.{call_stays}

-- a call that answers another number than 0 is refused
refused : (calls : List Call) (call : Call) (number : ℕ) → eqb (further calls call).number number ≡ true → not (eqb number 0) ≡ true → Says (refuse calls call number)
refused calls call number t u =
    let e = eqb-true (further calls call).number number t in
    (e, call_stays (after calls) two_addi call (λ z. eqb-false number 0 (not-true (eqb number 0) u) (sym e ∙ z)))

-- a law for each kind of claim
pub says : (c : Claim) → test c ≡ true → Says c
unfolding test
says (reads word reading) t = reading_same (read_of word) reading t
says (computes alu a b result) t = eqb-true (compute alu a b) result t
says (executes i value outcome) t = outcome_same (executed 16 i 0 value 0) outcome t
says (steps i step) t = step_same (step_with i sixteen) step t
says (answer calls numbers) t = list_same (answers calls) numbers t
says (show calls sight number) t = eqb-true (sight (after calls)) number t
says (refuse calls call number) t =
    let met = eqb (further calls call).number number in
    let other = not (eqb number 0) in
    refused calls call number (and_left met other t) (and_right met other t)
says (one and other) t = (says one (and_left (test one) (test other) t), says other (and_right (test one) (test other) t))
