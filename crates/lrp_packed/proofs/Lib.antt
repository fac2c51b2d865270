-- What entries stand for, and what packed zones make of a store.
pub mod Listed
pub mod Unpacked
pub mod Leading
