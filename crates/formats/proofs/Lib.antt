-- Laws that proofs of this crate and of callers cite.
pub mod HeadLaws
pub mod Marks
pub mod ChainLaws
pub mod Events
pub mod Unset
pub mod Bound
pub mod ResultLaws
pub mod RateLaws
pub mod Laws
