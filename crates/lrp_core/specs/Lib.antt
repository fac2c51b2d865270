-- What contracts of public calls say.
pub mod Cores
pub mod FreeVariables
pub mod VariableTrees
-- What functions inside say to one another.
pub mod Junctions
pub mod Polarities
pub mod Literals
