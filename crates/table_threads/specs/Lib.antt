pub mod Changes
pub mod ThreadChanges
pub mod CallChanges
pub mod LastBinds
