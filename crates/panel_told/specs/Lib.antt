pub mod Telling
pub mod Answers
