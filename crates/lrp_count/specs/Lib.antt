-- How many answers a window has, and the ranges of a window.

-- What contracts of public calls say.
pub mod Numbers
pub mod Ranges
-- What functions inside say to one another.
pub mod Blocks
pub mod Counting
pub mod Telling
