-- Spans of numbers with turns of a period, and the numbers with which sets of integers repeat.
pub mod Groups
pub mod Periods
pub mod Repeating
pub mod Spans
