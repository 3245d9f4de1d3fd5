pub mod Compared
pub mod Turns
pub mod Written
