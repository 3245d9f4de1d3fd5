pub mod Numbering
pub mod Theorem
pub mod Model
