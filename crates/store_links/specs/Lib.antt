pub mod Arrays
pub mod Judging
pub mod Placing
pub mod Storing
pub mod Runs
pub mod Opening
