pub mod Lists
pub mod Stores
pub mod Finished
pub mod Files
pub mod Fitting
