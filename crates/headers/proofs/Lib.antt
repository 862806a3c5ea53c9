pub mod Facts
pub mod Headers
pub mod Figured
pub mod Methods
