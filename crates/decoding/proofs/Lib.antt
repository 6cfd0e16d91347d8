-- Laws of the call.
pub mod DecodeLaws
pub mod EntryLaws
