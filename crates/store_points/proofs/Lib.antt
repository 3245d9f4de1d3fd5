pub mod Covering
pub mod Linking
