-- What the operations on tables do.

-- What contracts of public calls say.
pub mod Indexes
pub mod Meetings
-- What functions inside say to one another.
pub mod Near
pub mod Instants
