-- The civil values of a database, and the lines that show times as dates.

-- What the contract of `run` reaches.
pub mod CivilValues
pub mod Tokens
pub mod PlainText
pub mod CivilLines
pub mod Dated
