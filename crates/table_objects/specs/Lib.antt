pub mod HolderChanges
pub mod ObjectChanges
