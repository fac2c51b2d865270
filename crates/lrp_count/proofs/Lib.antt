-- What is proved of counts and ranges, by topic.
pub mod AnswerLaws
pub mod BlockLaws
pub mod CountLaws
pub mod RangeLaws
pub mod RunLaws
pub mod Sizes
pub mod SweepLaws
pub mod TellingLaws
pub mod WindowLaws
