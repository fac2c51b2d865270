-- What contracts of public calls say.
pub mod Reading
pub mod Rules
pub mod Times
pub mod Gathered
