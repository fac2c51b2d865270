pub mod FreshNames
pub mod Scoping
mod Numbering
pub mod Timely
pub mod Terms
pub mod Iff
pub mod HeadNames
mod SameTexts
mod Law
pub mod SameAnswers
mod Unchanged
pub mod NoOperators
pub mod TokenPlaces
pub mod LawfulTense
pub mod WithoutOperators
pub mod Positions
pub mod Steps
pub mod Along
