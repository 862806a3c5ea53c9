pub mod Facts
pub mod Answers
pub mod Tables
pub mod Fills
pub mod Lines
