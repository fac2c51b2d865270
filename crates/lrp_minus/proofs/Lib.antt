-- What is proved of differences and complements of stores, by topic.
pub mod AbsenceLaws
pub mod BeneathLaws
pub mod ComplementLaws
pub mod ContentLaws
pub mod CutterLaws
pub mod DifferenceLaws
pub mod EmptyCells
pub mod Fewness
pub mod FillingLaws
pub mod Growth
pub mod PartCounts
pub mod SparedLaws
pub mod TakenLaws
pub mod TakingLaws
pub mod WithinCells
