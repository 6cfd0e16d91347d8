-- The definitions that the contracts cite, in reading order.
pub mod Calls
pub mod Drain
pub mod Report
pub mod Handed
