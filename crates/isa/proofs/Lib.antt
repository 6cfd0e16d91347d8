-- Laws of the reader and the encoder.
pub mod ChoiceLaws
pub mod FormatLaws
pub mod ReadLaws
pub mod Parts
pub mod WordBack
pub mod Accepted
pub mod FieldsBack
pub mod Masks
pub mod Apart
mod IndexLaws
pub mod TableLaws
pub mod Ranges
pub mod RoundTrips
