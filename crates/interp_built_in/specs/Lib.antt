pub mod Answers
pub mod BuiltIns
pub mod Table
