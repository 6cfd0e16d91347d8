-- Laws of the events.
pub mod EventLaws
pub mod CommitLaws
pub mod Laws
pub mod Going
pub mod CountLaws
