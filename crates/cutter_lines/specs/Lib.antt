pub mod Grooves
pub mod Sizes
pub mod Laws
pub mod Steps
