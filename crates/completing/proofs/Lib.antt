-- Laws of the call.
pub mod CompleteLaws
pub mod RefusedLaws
pub mod LearnedLaws
pub mod RedirectLaws
