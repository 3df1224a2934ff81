pub mod BehindParts
pub mod Filling
pub mod FrameLaws
pub mod Keys
pub mod Leavings
