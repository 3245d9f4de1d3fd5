pub mod Lines
pub mod Groups
