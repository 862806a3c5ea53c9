pub mod Runs
pub mod Rules
pub mod Offered
pub mod Writing
