-- Document 01's worked values, in reading order: what a row can claim, the table, and what it says.
pub mod Same
pub mod Calls
pub mod Claims
pub mod Table
pub mod Worked
