pub mod Intake
pub mod Facts
