-- Laws of what an instruction does.
pub mod MemoryLaws
pub mod CauseLaws
pub mod OutcomeLaws
