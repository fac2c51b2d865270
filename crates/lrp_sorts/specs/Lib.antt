-- What contracts of public calls say.
pub mod Outcomes
pub mod Scopes
pub mod Definitions
pub mod Nesting
pub mod Carried
-- What functions inside say to one another.
pub mod Catalogs
pub mod Terms
pub mod Widths
pub mod Leaves
pub mod Binding
