pub mod Finishing
pub mod Began
