-- Laws that proofs of the crates above cite.
pub mod NumberLaws
pub mod Laws
