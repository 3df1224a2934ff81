pub mod BuiltInFirst
pub mod Constants
pub mod LateFaults
pub mod Systems
