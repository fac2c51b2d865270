-- What the contract of `run` reaches.
pub mod Replaced
pub mod Keeps
-- What contracts of single functions need beside.
pub mod Faults
pub mod Taken
pub mod Unions
pub mod States
