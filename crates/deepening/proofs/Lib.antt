pub mod Words
pub mod Deepening
