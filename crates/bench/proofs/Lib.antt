-- Laws of replay.
pub mod RefusalLaws
pub mod FigureLaws
pub mod Laws
pub mod RefusedLaws
