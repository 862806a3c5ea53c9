pub mod Facts
pub mod Copied
pub mod Laid
