mod FirstFaults
mod KnownClasses
mod MarkLists
mod Meanings
pub mod Outlines
mod UseLists
mod UseFaults
