-- Laws of the calls and of drain.
pub mod LentLaws
pub mod MakeLaws
pub mod DrainLaws
