pub mod Shown
pub mod Started
pub mod WideParsers
mod After
mod Places
mod Parts
mod Chains
mod Turning
mod Columns
mod OfBytes
pub mod LocalRules
pub mod TermRules
mod Below
pub mod Layers
pub mod TestRules
pub mod OverRules
mod OverSound
mod OverViable
mod CutRules
pub mod QueryRules
pub mod Natural
pub mod Marks
pub mod Readers
pub mod OperatorLaws
pub mod HoleFree
mod Ranks
pub mod TextLaws
pub mod OneFault
pub mod Languages
mod OperatorReader
pub mod LanguageReaders
pub mod Meant
pub mod LanguageTexts
pub mod Whole
pub mod LawfulQueries
mod WideTold
pub mod WideRule
mod WideTerms
mod WideWritten
mod WideLevels
mod WideWhole
mod WideBinders
mod WideTests
mod WideOperators
mod WideStarts
mod WideFormulas
pub mod FileRules
mod FileRanks
pub mod FileTexts
mod FileNarrow
