-- Laws of the call.
pub mod IssueLaws
pub mod RefusedLaws
