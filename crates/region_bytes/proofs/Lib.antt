pub mod Splices
pub mod LowBytes
pub mod OneExtent
