pub mod Exported
pub mod Sources
pub mod Asked
pub mod Moves
pub mod Imports
