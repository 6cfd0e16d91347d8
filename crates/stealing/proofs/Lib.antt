-- Laws of the theft.
pub mod StealLaws
pub mod RobbedLaws
