pub mod Cores
pub mod Left
mod Throwings
mod Beginnings
mod Takings
mod ComingBack
mod Replied
mod Exporting
mod Expecting
