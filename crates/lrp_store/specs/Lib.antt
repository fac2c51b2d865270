-- What stores, tables and answers stand for, and what the calls that change them do.

-- What contracts of public calls say.
pub mod Stores
pub mod Tables
pub mod Least
pub mod Growing
pub mod Tidied
pub mod Reading
pub mod Stored
pub mod Codes
pub mod Settled
-- What functions inside say to one another.
pub mod Joined
pub mod Remembered
pub mod Reaching
