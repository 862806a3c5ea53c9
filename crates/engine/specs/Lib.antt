pub mod Answer
pub mod Carry
