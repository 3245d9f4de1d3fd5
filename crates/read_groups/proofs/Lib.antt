pub mod Forms
pub mod Taking
