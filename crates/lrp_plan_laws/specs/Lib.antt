-- What the contract of `run` reaches.
pub mod Atoms
pub mod Projections
pub mod Binding
pub mod GuardedConjunctions
pub mod GuardedPlans
-- What contracts of single functions need beside.
pub mod Made
pub mod Rising
pub mod Scopes
pub mod Guards
pub mod Settled
pub mod Points
