pub mod Contents
pub mod Tasks
pub mod Runs
pub mod Reasons
pub mod Pairs
pub mod Following
pub mod SameAnswers
pub mod Numbers
