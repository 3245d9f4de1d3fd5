pub mod Turns
pub mod Stages
