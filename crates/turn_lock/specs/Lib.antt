pub mod Entries
pub mod Views
pub mod Steps
pub mod Rule
pub mod Standing
