pub mod Lines
pub mod Buffers
