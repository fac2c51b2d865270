-- What of a zone is left where others of its cell are taken away, and how zones of one cell are settled.

-- What contracts of public calls say.
pub mod Differences
pub mod Leaving
pub mod Settling
pub mod Thresholds
pub mod Intervals
-- What functions inside say to one another.
pub mod Axes
pub mod Bounded
pub mod Covering
pub mod Cutting
pub mod Gaps
pub mod Halves
pub mod Hulls
pub mod Lines
pub mod Turns
pub mod Windows
