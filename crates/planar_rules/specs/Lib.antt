pub mod PlanarCode
pub mod Nets
pub mod Programs
