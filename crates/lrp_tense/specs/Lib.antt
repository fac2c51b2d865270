-- What the contract of `run` reaches.
pub mod Meaning
pub mod TenseDomains
pub mod Expanding
pub mod Laws
pub mod TenseReading
-- What contracts of single functions need beside.
pub mod Lawful
pub mod Reading
pub mod Named
pub mod Counting
pub mod Written
pub mod Numbers
pub mod Scopes
pub mod BegunPair
