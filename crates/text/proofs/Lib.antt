pub mod Written
pub mod Digits
pub mod Lines
pub mod Compared
