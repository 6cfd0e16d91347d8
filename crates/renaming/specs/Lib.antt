-- The definitions that the contracts cite, in reading order.
pub mod Core
pub mod Answer
pub mod SetUp
pub mod Range
pub mod Setters
pub mod Changes
pub mod Drop
pub mod Report
pub mod Call
pub mod Statement
