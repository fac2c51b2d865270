pub mod CoreViews
pub mod Joined
pub mod Formed
pub mod Members
pub mod VariableLists
pub mod TreeViews
pub mod Literal
mod Said
