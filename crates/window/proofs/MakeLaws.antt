-- A call made, by its name.
use Prim.Native.Nat.{ℕ}
use mathlib.Core.Path.{◌≡◌, ap, ◌∙◌, sym}
use mathlib.Core.Bool.{Bool, ◌&&◌}
use mathlib.Core.List.{List}
use Rattle.std.proofs.Common.{Result, Ok, Err}
use Rattle.std.specs.Result.{IfOk, IsErrAnd}
use Rattle.refusals.specs.Numbers.{number, number_of}
use Rattle.refusals.proofs.Laws.{handed_on}
use Rattle.isa.specs.Reads.{choose}
use Rattle.refusals.specs.declared.Refusal.{Refusal}
use Rattle.renaming.specs.Answer.{Answer}
use Rattle.renaming.specs.Call.{lent_refusal}
use Rattle.renaming.specs.declared.Core.{Core}
use Rattle.decoding.specs.Decode.{decode_refusal, decoded, decode_within, decode_of}
use Rattle.decoding.proofs.DecodeLaws.{decode_lent}
use Rattle.issuing.specs.Issue.{issue_refusal, issued, issue_within, issue_of}
use Rattle.issuing.proofs.IssueLaws.{issue_lent}
use Rattle.completing.specs.Complete.{needs_register, none_free, complete_refusal, completed, complete_within, complete_of}
use Rattle.completing.proofs.CompleteLaws.{complete_lent}
use Rattle.committing.specs.Commit.{Commit as Committed, commit_refusal, commit_within, commit_of}
use Rattle.committing.proofs.CommitLaws.{commit_refused, commit_lent}
use Rattle.window.specs.Calls.{World, Made, made_by, make, make_within, stolen}
use Rattle.window.specs.declared.Call.{Call}
use Rattle.window.specs.declared.Call.TheVariants.{Decode, Issue, Complete, Commit}
use Rattle.window.proofs.LentLaws.{first_refused, lent_refused}

-- an answer that left the data as they were
abbrev kept : List ℕ → Answer → Made
kept memory a = made_by a.core memory a.number

abbrev left : Committed → Made
left c = made_by c.answer.core c.memory c.answer.number

-- as `?` hands it on
pub made_handed : {A : Type 0} (m : Core) (memory : List ℕ) (result : Result A Refusal) (refusal : Refusal) (made : Made) → IsErrAnd result (λ x. x ≡ refusal) → made_by m memory (number refusal) ≡ made
    → made_by m memory (number_of result) ≡ made
made_handed {A} m memory result refusal made h e = ap (λ (r : Result A Refusal). made_by m memory (number_of r)) (handed_on result refusal h) ∙ e

-- by what the call itself answers
module _ (program : List ℕ) (call : Call) (w : World) (a : Answer) where
  pub decode_made : (guess : ℕ) → call ≡ Decode guess → a ≡ decode_of program w.memory guess w.core → make program call w ≡ kept w.memory a
  unfolding make
  decode_made guess q e = ap (λ (x : Call). make program x w) q ∙ ap (kept w.memory) (sym e)

  pub issue_made : (position : ℕ) → call ≡ Issue position → a ≡ issue_of program w.memory position w.core → make program call w ≡ kept w.memory a
  unfolding make
  issue_made position q e = ap (λ (x : Call). make program x w) q ∙ ap (kept w.memory) (sym e)

  pub complete_made : (position : ℕ) → call ≡ Complete position → a ≡ complete_of program w.memory position w.core → make program call w ≡ kept w.memory a
  unfolding make
  complete_made position q e = ap (λ (x : Call). make program x w) q ∙ ap (kept w.memory) (sym e)

  pub commit_made : (written : List ℕ) → call ≡ Commit → commit_of program w.memory w.core ≡ record { answer = a; memory = written } → make program call w ≡ made_by a.core written a.number
  unfolding make
  commit_made written q e = ap (λ (x : Call). make program x w) q ∙ ap left e

-- where 5 and 6 do not apply
module _ (program : List ℕ) (call : Call) (w : World) (a : Answer) where
  pub decode_made_within : (guess : ℕ) → call ≡ Decode guess → a ≡ decode_within program guess w.core → kept w.memory a ≡ make_within program call w
  unfolding make_within
  decode_made_within guess q e = ap (kept w.memory) e ∙ sym (ap (λ (x : Call). make_within program x w) q)

  pub issue_made_within : (position : ℕ) → call ≡ Issue position → a ≡ issue_within w.memory position w.core → kept w.memory a ≡ make_within program call w
  unfolding make_within
  issue_made_within position q e = ap (kept w.memory) e ∙ sym (ap (λ (x : Call). make_within program x w) q)

  pub complete_made_within : (position : ℕ) → call ≡ Complete position → a ≡ complete_within position w.core → kept w.memory a ≡ make_within program call w
  unfolding make_within
  complete_made_within position q e = ap (kept w.memory) e ∙ sym (ap (λ (x : Call). make_within program x w) q)

  pub commit_made_within : (written : List ℕ) → call ≡ Commit → commit_within w.memory w.core ≡ record { answer = a; memory = written } → made_by a.core written a.number ≡ make_within program call w
  unfolding make_within
  commit_made_within written q e = sym (ap left e) ∙ sym (ap (λ (x : Call). make_within program x w) q)

pub complete_stole : (call : Call) (position : ℕ) (m : Core) → call ≡ Complete position → (result : Result Bool Refusal) → IfOk result (λ s. s ≡ (needs_register m position && none_free m))
    → IfOk result (λ s. choose s 1 0 ≡ stolen call m)
complete_stole call position m q (Ok s) e = ap (λ (b : Bool). choose b 1 0) e ∙ sym (ap (λ (x : Call). stolen x m) q)
complete_stole call position m q (Err refusal) e = tt

-- 5 and 6, then the call
module _ (program : List ℕ) where
  pub make_lent : (call : Call) (w : World) → lent_refusal w.core program w.memory ≡ 0 → make program call w ≡ make_within program call w
  unfolding make make_within
  make_lent (Decode guess) w e = sym (ap (kept w.memory) (decode_lent program w.memory guess w.core e))
  make_lent (Issue position) w e = sym (ap (kept w.memory) (issue_lent program w.memory position w.core e))
  make_lent (Complete position) w e = sym (ap (kept w.memory) (complete_lent program w.memory position w.core e))
  make_lent Commit w e = ap left (commit_lent program w.memory w.core e)

  pub make_refused : (call : Call) (w : World) (number : ℕ) → number ≡ lent_refusal w.core program w.memory → (number ≡ 0 → ⊥) → made_by w.core w.memory number ≡ make program call w
  unfolding make decode_of issue_of complete_of commit_of
  make_refused (Decode guess) w number e some = ap (kept w.memory) (lent_refused w.core (decoded program guess w.core) _ (decode_refusal w.core) number e some)
  make_refused (Issue position) w number e some = ap (kept w.memory) (lent_refused w.core (issued w.memory position w.core) _ (issue_refusal position w.core) number e some)
  make_refused (Complete position) w number e some = ap (kept w.memory) (lent_refused w.core (completed position w.core) _ (complete_refusal position w.core) number e some)
  make_refused Commit w number e some = sym (ap left (commit_refused w.memory w.core _ number (first_refused _ (commit_refusal w.core) number e some) some))
