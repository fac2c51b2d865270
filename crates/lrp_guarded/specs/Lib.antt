-- What functions inside say to one another.
pub mod Making
pub mod Standing
pub mod Choices
pub mod Needs
pub mod Sorting
pub mod Building
