pub mod Lines
pub mod Finishing
