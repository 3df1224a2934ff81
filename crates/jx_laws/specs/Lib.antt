pub mod Laws
pub mod Order
pub mod Bounds
pub mod Handed
pub mod Ended
