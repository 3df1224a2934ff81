pub mod Contents
pub mod Pools
pub mod Entries
