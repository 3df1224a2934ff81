pub mod Systems
pub mod ListState
