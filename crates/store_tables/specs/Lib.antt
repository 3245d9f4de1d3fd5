pub mod Tables
pub mod Same
pub mod Columns
