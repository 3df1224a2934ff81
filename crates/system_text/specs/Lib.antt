pub mod Keys
pub mod Description
pub mod Scan
pub mod Answers
