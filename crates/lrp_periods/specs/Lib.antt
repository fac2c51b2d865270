-- Tables in parts, and the sets of assignments that the operations make of them.
pub mod Bounding
pub mod Combining
pub mod Faults
pub mod Nearest
pub mod Operations
pub mod Parts
pub mod Periods
pub mod Scanning
pub mod Sets
pub mod Sieves
pub mod Windows
