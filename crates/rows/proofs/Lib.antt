pub mod Blocks
pub mod Emitted
pub mod Coded
pub mod Read
