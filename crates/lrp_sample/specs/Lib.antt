-- What the contract of `run` reaches.
pub mod Texts
pub mod Plans
-- What contracts of single functions need beside.
pub mod Trees
