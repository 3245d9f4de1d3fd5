pub mod Walked
pub mod Entered
pub mod Whole
pub mod Contracted
