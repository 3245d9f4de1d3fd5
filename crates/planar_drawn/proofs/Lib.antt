pub mod Runs
pub mod Growing
pub mod Read
pub mod SameNet
pub mod Theorem
pub mod Sizes
