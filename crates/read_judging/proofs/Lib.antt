pub mod Stages
pub mod Starts
