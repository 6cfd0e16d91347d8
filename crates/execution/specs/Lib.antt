-- What a reader must believe of an instruction, in reading order.
pub mod Causes
pub mod Actions
pub mod Memory
pub mod Execute
pub mod Roles
