pub mod Conditions
pub mod Labels
pub mod Mnemonics
pub mod Parts
pub mod Ranges
pub mod Targets
