-- General laws, which belong to no one layer.
pub mod Arms
pub mod Bools
pub mod Lists
pub mod Table
