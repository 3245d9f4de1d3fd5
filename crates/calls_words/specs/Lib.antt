pub mod Lists
pub mod Rests
