pub mod Sending
pub mod AnswerLaws
