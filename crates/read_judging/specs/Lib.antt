pub mod Starting
pub mod Files
