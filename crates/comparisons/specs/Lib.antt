pub mod Repriced
pub mod Rows
pub mod Converted
pub mod Totals
pub mod Fees
pub mod Facts
