pub mod Behind
pub mod Cores
pub mod Making
pub mod Steps
