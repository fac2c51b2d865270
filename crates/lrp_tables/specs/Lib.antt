-- What tables stand for, and the sets that steps make of them.

-- What the contract of `run` reaches.
pub mod Caps
-- What contracts of public calls say.
pub mod Calls
pub mod Steps
-- What contracts of single functions need beside.
pub mod Cells
pub mod Columns
pub mod Passes
pub mod Pieces
pub mod Tables
pub mod Faults
