pub mod Word
pub mod Refusal
pub mod Sizes
pub mod WithinLimits
pub mod Facts
