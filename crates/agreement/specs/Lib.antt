-- What a reader must believe of demand 3, in reading order.
pub mod Lists
pub mod Statement
-- what holds between calls
pub mod Resting
-- what follows for refusal 5 and for drain
pub mod Unrefused
pub mod Drained
