-- What plans are run on, and what their tables stand for.

-- What the contract of `run` reaches.
pub mod Counts
-- What contracts of single functions need beside.
pub mod Answered
pub mod Ending
pub mod Planned
pub mod Running
pub mod Settling
pub mod Freeing
pub mod Grouped
pub mod Growing
pub mod Together
pub mod Known
