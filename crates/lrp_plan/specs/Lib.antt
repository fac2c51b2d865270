-- What contracts of public calls say.
pub mod Planning
pub mod Elements
pub mod Waiting
pub mod Drafts
pub mod Taking
pub mod Sources
-- What functions inside say to one another.
pub mod Domains
pub mod Splits
pub mod Naming
