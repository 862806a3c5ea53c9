pub mod Literals
pub mod Texts
pub mod Bytes
pub mod Desk
pub mod Listings
