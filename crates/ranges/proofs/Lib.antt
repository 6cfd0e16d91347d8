-- Laws of the ranges.
pub mod SizeLaws
pub mod TableLaws
pub mod EntryLaws
