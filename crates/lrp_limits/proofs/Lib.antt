-- Lemmas on least common multiples, and on greatest and doubled numbers.
pub mod Multiples
pub mod Greatest
pub mod Keeping
pub mod Raised
pub mod Scales
