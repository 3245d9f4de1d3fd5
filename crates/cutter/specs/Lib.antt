pub mod Numbering
pub mod Finding
pub mod Whole
pub mod Setting
pub mod Seen
pub mod Lists
