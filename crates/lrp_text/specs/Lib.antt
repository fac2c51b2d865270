pub mod Parsers
pub mod Taking
pub mod ColumnRule
pub mod IntegerRule
pub mod OffsetRule
pub mod Lexemes
pub mod Sources
pub mod Stream
