-- What is written of answers.
pub mod Lines
pub mod AnswerText
pub mod Answering
