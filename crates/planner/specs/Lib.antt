pub mod Written
pub mod Facts
