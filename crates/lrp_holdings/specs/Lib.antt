-- Values held for owners: what is held, and the chains by which it is let go.
pub mod Holdings
pub mod Chains
pub mod Ranked
pub mod Winners
pub mod Ordered
