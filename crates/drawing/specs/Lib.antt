pub mod View
pub mod Opens
pub mod Places
pub mod Adds
pub mod Held
