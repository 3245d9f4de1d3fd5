pub mod Points
pub mod Gathering
pub mod Boundary
pub mod Top
pub mod Next
pub mod Numbered
