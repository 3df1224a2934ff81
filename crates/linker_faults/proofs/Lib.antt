pub mod Growing
pub mod Rounds
pub mod Climbing
pub mod Repeated
pub mod Noted
pub mod FirstFaults
pub mod Walking
