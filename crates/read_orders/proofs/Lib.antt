pub mod Rests
pub mod Turns
pub mod Opens
