pub mod Corners
pub mod Sorted
pub mod Routed
pub mod Tabled
pub mod Compared
pub mod Rules
pub mod Offered
pub mod Writing
