-- Least common multiples and reaches up to 2^62.
pub mod Multiples
pub mod Capped
pub mod Facts
