-- What a token says of the files, of a spot, and of a text that is read.

-- What the contract of `run` reaches.
pub mod Files
pub mod Reading
-- What contracts of public calls say.
pub mod Spots
-- What functions inside say to one another.
pub mod Parts
