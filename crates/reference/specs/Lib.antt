-- The definitions that the contracts cite, in reading order.
pub mod Fetch
pub mod Step
pub mod Run
pub mod Statement
