-- The definitions that the contracts cite.
pub mod Field
pub mod Signed
pub mod Arithmetic
pub mod Bytes
