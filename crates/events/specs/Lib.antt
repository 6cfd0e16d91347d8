-- The definitions that the contracts cite.
pub mod Counts
pub mod Numbers
pub mod Play
pub mod Statement
