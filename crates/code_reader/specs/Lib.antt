pub mod CodeLaws
pub mod CodeReading
pub mod Readings
