-- What contracts say of least answers: their lines, edits and limits, and then the program's own values.

-- What the contract of `run` reaches.
pub mod Edits
pub mod Watching
pub mod Edited
pub mod Anew
-- What contracts of single functions need beside.
pub mod Faults
pub mod LeastAnswers
pub mod Changes
pub mod Decided
pub mod Keeping
