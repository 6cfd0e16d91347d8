-- Laws that proofs of this crate and of callers cite.
pub mod FieldLaws
pub mod ExtendLaws
pub mod BytesLaws
mod LoadLaws
