pub mod Depths
pub mod Groups
pub mod Keys
pub mod Numeric
pub mod Rows
