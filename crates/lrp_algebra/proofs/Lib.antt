-- The lemmas: cells and lists with one value fewer, and sets that are added part by part.
pub mod Listed
pub mod Grouped
pub mod InCommon
pub mod Nearby
pub mod NoColumns
pub mod Indexed
pub mod InstantsMet
pub mod Joined
