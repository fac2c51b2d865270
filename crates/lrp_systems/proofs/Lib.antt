-- The lemmas: larger periods, bounds that come together, residues that are left and tried, orders, pieces of cells, and how they make up the solutions.
pub mod AddedAs
pub mod Aligning
pub mod Branches
pub mod CellPieces
pub mod FreePieces
pub mod FrontPieces
pub mod FrontWalk
pub mod InWindows
pub mod Joining
pub mod LoneZones
pub mod Orders
pub mod Ranges
pub mod Remaining
pub mod SoleCells
pub mod Taken
pub mod Turns
pub mod WholeCells
