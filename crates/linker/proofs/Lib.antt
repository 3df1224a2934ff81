pub mod ReadMethods
pub mod Walks
pub mod Outlined
