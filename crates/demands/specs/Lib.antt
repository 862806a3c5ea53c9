pub mod Run
pub mod Network
pub mod Besides
pub mod Sums
pub mod Demands
pub mod Plain
