pub mod Lines
pub mod WordEnds
pub mod Magnitudes
pub mod Texts
pub mod Utf16
pub mod LineLaws
pub mod WordLaws
pub mod QuoteLaws
