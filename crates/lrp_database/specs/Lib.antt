-- What contracts of public calls say.
pub mod Stored
pub mod Once
-- What functions inside say to one another.
pub mod Seen
