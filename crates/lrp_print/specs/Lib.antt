-- What the contract of `run` reaches.
pub mod ReadBack
-- What contracts of single calls ask for.
pub mod Writable
-- What functions inside say to one another.
pub mod Conditions
