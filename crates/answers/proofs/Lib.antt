pub mod Facts
pub mod Unmet
pub mod Meets
pub mod Told
pub mod Found
