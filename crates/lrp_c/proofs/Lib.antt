-- Proofs of calls from C.
pub mod PackedLemmas
pub mod RunLemmas
pub mod LooseSteps
pub mod HeldSteps
pub mod CallLemmas
pub mod JoinedFiles
pub mod SessionLemmas
