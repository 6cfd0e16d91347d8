use Rattle.window.specs.Calls.{world_of}
use Rattle.window.proofs.MakeLaws.{made_handed, decode_made_within, issue_made_within, complete_made_within, commit_made_within, complete_stole}
use Rattle.window.proofs.making.make_within.Goals as goal

pub returns-in_err-decode_within-in-Decode-clause-made : goal.returns-in_err-decode_within-in-Decode-clause-made
returns-in_err-decode_within-in-Decode-clause-made c =
    let a = c.args in
    made_handed _ _ c.from_residual.result c.in_err-decode_within-in-Decode.field-0.0 _ c.from_residual.ensures.1
    (decode_made_within a.program.now a.call (world_of a.core.now a.«data».now) _ c.in-Decode.guess c.in-Decode.is c.in_err-decode_within-in-Decode.ensures)

pub returns-in_ok-decode_within-in-Decode-clause-made : goal.returns-in_ok-decode_within-in-Decode-clause-made
returns-in_ok-decode_within-in-Decode-clause-made c =
    let a = c.args in
    decode_made_within a.program.now a.call (world_of a.core.now a.«data».now) _ c.in-Decode.guess c.in-Decode.is c.in_ok-decode_within-in-Decode.ensures

pub returns-in_err-issue_within-in-Issue-clause-made : goal.returns-in_err-issue_within-in-Issue-clause-made
returns-in_err-issue_within-in-Issue-clause-made c =
    let a = c.args in
    made_handed _ _ c.from_residual-in_err-issue_within-in-Issue.result c.in_err-issue_within-in-Issue.field-0.0 _ c.from_residual-in_err-issue_within-in-Issue.ensures.1
    (issue_made_within a.program.now a.call (world_of a.core.now a.«data».now) _ c.in-Issue.position c.in-Issue.is c.in_err-issue_within-in-Issue.ensures)

pub returns-in_ok-issue_within-in-Issue-clause-made : goal.returns-in_ok-issue_within-in-Issue-clause-made
returns-in_ok-issue_within-in-Issue-clause-made c =
    let a = c.args in
    issue_made_within a.program.now a.call (world_of a.core.now a.«data».now) _ c.in-Issue.position c.in-Issue.is c.in_ok-issue_within-in-Issue.ensures

pub returns-in-Complete-clause-made : goal.returns-in-Complete-clause-made
returns-in-Complete-clause-made c =
    let a = c.args in
    complete_made_within a.program.now a.call (world_of a.core.now a.«data».now) _ c.in-Complete.position c.in-Complete.is c.complete_within.ensures.answer

pub returns-in-Complete-clause-stole : goal.returns-in-Complete-clause-stole
returns-in-Complete-clause-stole c =
    complete_stole c.args.call c.in-Complete.position c.args.core.now c.in-Complete.is c.complete_within.result c.complete_within.ensures.stole

pub returns-in_err-commit_within-in-Commit-clause-made : goal.returns-in_err-commit_within-in-Commit-clause-made
returns-in_err-commit_within-in-Commit-clause-made c =
    let a = c.args in
    made_handed _ _ c.from_residual-in_err-commit_within-in-Commit.result c.in_err-commit_within-in-Commit.field-0.0 _ c.from_residual-in_err-commit_within-in-Commit.ensures.1
    (commit_made_within a.program.now a.call (world_of a.core.now a.«data».now) _ _ c.in-Commit.is c.in_err-commit_within-in-Commit.ensures)

pub returns-in_ok-commit_within-in-Commit-clause-made : goal.returns-in_ok-commit_within-in-Commit-clause-made
returns-in_ok-commit_within-in-Commit-clause-made c =
    let a = c.args in
    commit_made_within a.program.now a.call (world_of a.core.now a.«data».now) _ _ c.in-Commit.is c.in_ok-commit_within-in-Commit.ensures
