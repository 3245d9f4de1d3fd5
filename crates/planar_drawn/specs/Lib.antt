pub mod Runs
pub mod Growing
pub mod Written
pub mod Read
pub mod Members
pub mod Named
pub mod SameNet
pub mod Theorem
