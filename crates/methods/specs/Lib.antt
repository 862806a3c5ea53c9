pub mod Bank
pub mod Edges
pub mod Method1
pub mod Method2
pub mod Method3
pub mod Method4
pub mod Method5
