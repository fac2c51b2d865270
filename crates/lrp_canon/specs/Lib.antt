-- Sets of one time column as periodic rows, and the canonical answer of such a set.

-- What the contract of `run` reaches.
pub mod Answers
pub mod Rows
-- What contracts of public calls say.
pub mod Canonical
-- What functions inside say to one another.
pub mod Counting
pub mod Edges
pub mod Making
pub mod Pairing
