-- Dates and times of day, and the minutes that they stand for.

-- What the contract of `run` reaches.
pub mod Dates
pub mod Moments
pub mod Parts
pub mod Minutes
