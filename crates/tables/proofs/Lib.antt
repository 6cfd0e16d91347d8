-- Laws of the tables.
pub mod TableLaws
pub mod PoolLaws
pub mod MapLaws
