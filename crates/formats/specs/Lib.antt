-- The definitions that the contracts cite.
pub mod Schedule
pub mod Kind
pub mod Chain
pub mod Result
pub mod Rate
pub mod Statement
