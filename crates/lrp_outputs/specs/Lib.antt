-- What contracts say of outputs and refusals: first their texts and their statuses, and then the program's own values.

-- What the contract of `run` reaches.
pub mod Outcomes
pub mod PageLines
pub mod RangeLines
pub mod First
pub mod SampleLines
-- What contracts of public calls say.
pub mod Statuses
pub mod Spots
pub mod SmallAnswers
pub mod PartLeasts
pub mod Outputs
pub mod Known
-- What functions inside say to one another.
pub mod Rooms
pub mod Refusals
pub mod Carried
