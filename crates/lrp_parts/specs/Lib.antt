-- What contracts of public calls say.
pub mod Bound
pub mod Heads
pub mod Derivations
pub mod Firsts
-- What functions inside say to one another.
pub mod Patterns
pub mod Conjunctions
pub mod Indexes
pub mod Fronts
pub mod Lines
