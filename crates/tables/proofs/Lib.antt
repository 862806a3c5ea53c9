pub mod Written
pub mod Copied
pub mod Expanded
pub mod Passed
pub mod Looped
pub mod Tabled
pub mod Columns
