pub mod Asking
pub mod Listing
pub mod Questions
pub mod Read
