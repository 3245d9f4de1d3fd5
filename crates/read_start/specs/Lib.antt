pub mod Heading
pub mod Starting
