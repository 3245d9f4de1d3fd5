pub mod Going
pub mod Outcomes
