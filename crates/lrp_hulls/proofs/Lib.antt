-- The lemmas: bounds that zones have in common, spans without a number of a range, spans and hulls column by column, and numbers that are found.
pub mod Columned
pub mod Commoned
pub mod Foundlings
pub mod Hulled
pub mod Planted
pub mod Spanned
