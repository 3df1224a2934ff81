pub mod Heaps
pub mod Layout
