pub mod Check
pub mod Order
pub mod Program
pub mod Cross
