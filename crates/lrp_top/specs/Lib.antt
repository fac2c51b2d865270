-- What contracts say of words, outcomes and texts: first what a run is, and then the program's own values.

-- What the contract of `run` reaches.
pub mod Seen
pub mod Ends
pub mod Sources
pub mod Steps
pub mod Resuming
pub mod Telling
pub mod Written
pub mod Sampled
pub mod Canonical
pub mod Watched
pub mod Heads
pub mod Due
pub mod Languages
-- What is promised of databases that are read once, and of questions to them.
pub mod Questions
pub mod Parts
pub mod Keeping
-- What functions inside say to one another.
pub mod Lengths
pub mod Refusals
pub mod Samples
