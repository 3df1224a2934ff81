pub mod PartLaws
pub mod Repeats
pub mod CodeLengths
