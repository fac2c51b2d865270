-- What the contract of `run` reaches.
pub mod KeptForm
pub mod EqualRows
pub mod Choices
pub mod Limits
-- What contracts of single functions need beside.
pub mod Signs
pub mod Asked
pub mod Keys
pub mod SortedForms
pub mod Spans
pub mod Disjuncts
pub mod Drafts
pub mod Outlines
pub mod Sizes
pub mod Held
pub mod Keyed
pub mod Labels
pub mod Sketches
pub mod Features
pub mod Passing
pub mod TimeWindows
