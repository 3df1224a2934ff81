pub mod BasicLaws
pub mod NthEntries
