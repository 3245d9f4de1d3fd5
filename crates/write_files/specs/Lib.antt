pub mod Outputs
pub mod Files
pub mod Finishing
