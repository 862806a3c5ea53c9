pub mod Word
pub mod Worked
