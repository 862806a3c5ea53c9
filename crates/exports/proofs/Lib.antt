pub mod Facts
pub mod Told
