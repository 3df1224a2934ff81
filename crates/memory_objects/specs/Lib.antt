pub mod Inner
pub mod ObjectLists
pub mod Rows
pub mod Ranges
