pub mod Words
pub mod Numbers
pub mod Quotes
pub mod TextLaws
pub mod Readings
