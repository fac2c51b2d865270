-- What hulls of zones have, what is asked of zones, and what a tree of hulls finds.

-- What contracts of public calls say.
pub mod Queries
pub mod Ranges
pub mod Common
-- What functions inside say to one another.
pub mod Spans
pub mod Columns
pub mod Hulls
pub mod Trees
