-- Laws of the in-order step and run.
pub mod FetchLaws
pub mod StepLaws
pub mod RunLaws
pub mod Laws
