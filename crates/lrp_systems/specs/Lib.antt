-- What systems of zones stand for, and which residues are tried for their solutions.

-- What contracts of public calls say.
pub mod Systems
pub mod Aligned
pub mod Parts
pub mod Residues
pub mod Windows
pub mod Fronts
pub mod Wholes
pub mod Choices
pub mod Frames
pub mod Joint
-- What functions inside say to one another.
pub mod FrontCodes
pub mod Marks
pub mod Pieces
pub mod Placing
pub mod Sole
