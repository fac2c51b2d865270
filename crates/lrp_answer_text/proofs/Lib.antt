-- The lemmas: lines, closed bounds, the rows of an answer, and that its text is one of its query.
pub mod LineLaws
pub mod Escapes
pub mod AnswerLines
pub mod Shortest
pub mod OneColumn
pub mod Rows
pub mod Lists
pub mod Closed
pub mod AnswerRows
pub mod AnswerHolds
pub mod AnswerRead
pub mod Made
pub mod Apart
pub mod Hull
pub mod AnswerBeside
pub mod AnswerLaw
pub mod HeadColumns
