pub mod Placed
pub mod Carries
pub mod Answered
pub mod Told
