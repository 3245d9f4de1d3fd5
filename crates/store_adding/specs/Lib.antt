pub mod Calls
pub mod Passing
