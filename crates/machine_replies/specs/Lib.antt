pub mod Leaving
pub mod Sites
