pub mod Spots
-- What contracts of listings say.
pub mod Cursors
pub mod Listing
pub mod Giving
pub mod Standing
pub mod Pauses
pub mod Parts
pub mod Merging
-- What functions inside say to one another.
pub mod Following
pub mod Progress
pub mod Codes
