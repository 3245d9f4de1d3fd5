pub mod Grooves
pub mod Grid
