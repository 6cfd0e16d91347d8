-- Laws of the benchmark's functions.
pub mod Calls
pub mod Sums
