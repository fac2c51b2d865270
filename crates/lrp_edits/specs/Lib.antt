-- What the contract of `run` reaches.
pub mod EditTexts
pub mod EditMeaning
pub mod EditReading
-- What contracts of single functions need beside.
pub mod EditRules
pub mod EditGathered
