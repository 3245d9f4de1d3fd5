pub mod Checking
pub mod Showing
pub mod Laws
pub mod Exact
