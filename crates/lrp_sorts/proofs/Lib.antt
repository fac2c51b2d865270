pub mod Binding
pub mod FaultLists
pub mod ColumnFaults
pub mod Counting
pub mod Kept
pub mod Leaves
pub mod Tallies
pub mod SortNames
pub mod RawNodes
pub mod Heads
mod NoneLeft
mod SortedQueries
mod Mapped
mod NameSorts
mod ResolvedNodes
pub mod Surveys
pub mod Nested
pub mod Carries
pub mod SeenTerms
pub mod Firsts
pub mod Numbered
pub mod Catalogs
pub mod Marked
pub mod Near
