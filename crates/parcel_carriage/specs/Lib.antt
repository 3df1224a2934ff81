pub mod Carriage
pub mod Changes
pub mod Words
