-- The definitions that the contracts cite, in reading order.
pub mod Listing
pub mod Reads
pub mod Table
pub mod Encodes
pub mod Statement
