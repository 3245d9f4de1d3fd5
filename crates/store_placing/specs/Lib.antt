pub mod Small
pub mod Ports
