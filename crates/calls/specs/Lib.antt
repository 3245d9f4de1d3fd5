pub mod Answers
pub mod Turns
pub mod Places
pub mod Ran
