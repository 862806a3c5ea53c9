pub mod Repeated
pub mod Methods
