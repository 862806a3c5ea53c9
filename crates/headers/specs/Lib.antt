pub mod Method
pub mod Figures
pub mod Refusal
pub mod Facts
