pub mod Numbers
pub mod Same
pub mod Growth
pub mod Spelled
pub mod Constants
mod Members
mod Repeated
mod Codes
mod Methods
pub mod Counts
pub mod Soundness
mod Orders
pub mod Ended
mod Ranges
mod Listed
mod Lawful
mod Taken
pub mod Whole
mod Others
pub mod Readable
pub mod Operands
mod Meanings
