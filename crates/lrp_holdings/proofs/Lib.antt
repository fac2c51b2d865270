-- Lemmas on the chains of owners, and on what is held.
pub mod Cases
pub mod Chained
pub mod Relinked
pub mod LetGo
pub mod Holding
pub mod Held
pub mod Tournament
pub mod Ordering
