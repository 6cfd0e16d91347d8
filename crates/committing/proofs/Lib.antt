-- Laws of the call.
pub mod CommitLaws
pub mod RefusedLaws
