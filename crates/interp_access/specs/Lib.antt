pub mod Nested
pub mod Rows
pub mod Takings
