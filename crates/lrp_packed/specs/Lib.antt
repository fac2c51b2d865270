-- Packed zones and packed stores, and their first tuples.
pub mod Entries
pub mod Packed
pub mod Leading
pub mod Orders
