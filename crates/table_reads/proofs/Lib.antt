pub mod ChoiceReads
pub mod ActingReads
pub mod ReplyReads
