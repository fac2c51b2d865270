-- What contracts of single functions need beside.
pub mod Rules
pub mod OperatorRules
pub mod Grammars
pub mod Reading
pub mod Lawful
