pub mod Databases
pub mod DataTextLemmas
pub mod FormulaTexts
pub mod FileTexts
mod LastTokens
mod InnerParts
mod Agreeing
mod DatabaseTurns
mod QueryTurns
mod EveryText
mod EveryQuery
mod EveryFile
mod EveryDatabase
mod EverySorting
