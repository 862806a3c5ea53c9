pub mod Printed
pub mod Lent
