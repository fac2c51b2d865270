-- What the tests' own functions say.

pub mod Evens
pub mod Integers
pub mod Residues
pub mod Times
