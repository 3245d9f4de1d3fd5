pub mod Storable
pub mod Stages
