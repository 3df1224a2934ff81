pub mod Rendering
pub mod CallTables
