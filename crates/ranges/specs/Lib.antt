-- The definitions that the contracts cite, in reading order.
pub mod Sizes
pub mod Asked
pub mod Tables
pub mod Entries
