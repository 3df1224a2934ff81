pub mod Beginnings
pub mod Throwing
