pub mod Heads
pub mod Starts
