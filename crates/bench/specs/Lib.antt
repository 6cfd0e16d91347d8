-- The definitions that the contracts cite, in reading order, and what a buyer cites.
pub mod Replay
pub mod Statement
