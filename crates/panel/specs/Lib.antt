pub mod Reading
pub mod Undrawing
