pub mod Packing
pub mod Unpacking
pub mod Coming
pub mod Handed
pub mod Resumed
pub mod Selection
pub mod Taken
