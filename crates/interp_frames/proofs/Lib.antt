pub mod Catching
pub mod FirstFrames
