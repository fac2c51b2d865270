-- The command that words spell.

-- What the contract of `run` reaches.
pub mod Entries
pub mod Numbers
pub mod Commands
-- What contracts of single functions need beside.
pub mod Ranges
