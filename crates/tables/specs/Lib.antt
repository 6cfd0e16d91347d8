-- The definitions that the contracts cite, in reading order.
pub mod Table
pub mod FreeList
pub mod Operand
pub mod GeneralMap
pub mod Entry
