pub mod Hierarchies
pub mod Listing
pub mod Relations
pub mod Repeats
pub mod ClassFaults
pub mod Walks
pub mod Early
