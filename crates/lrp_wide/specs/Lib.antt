-- What files of the wide language mean, and the query of first-order logic that says the same.
pub mod Meaning
pub mod Inlining
pub mod Stars
pub mod Limits
pub mod WideSorting
pub mod Laws
pub mod Outcomes
-- What functions inside say to one another.
pub mod Counts
pub mod Settings
pub mod Sizes
pub mod Chains
pub mod Inside
pub mod Narrow
