pub mod Adds
pub mod Rests
pub mod Reading
