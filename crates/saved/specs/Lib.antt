pub mod Saved
pub mod Converts
pub mod Facts
