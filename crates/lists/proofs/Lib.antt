pub mod Test
pub mod Slices
pub mod Sets
pub mod Filled
