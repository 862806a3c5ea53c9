pub mod Words
pub mod Buffer
pub mod Converts
pub mod Facts
