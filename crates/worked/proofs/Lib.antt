-- The worked values hold: one computed test, and what it says of each row.
pub mod SameLaws
pub mod RefusedLaws
pub mod ClaimLaws
pub mod TableLaws
pub mod Values
