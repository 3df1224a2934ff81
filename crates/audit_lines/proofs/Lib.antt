pub mod EntryLines
pub mod SpacedTexts
