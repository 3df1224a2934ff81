pub mod Holes
pub mod Joins
pub mod Taken
pub mod Inside
