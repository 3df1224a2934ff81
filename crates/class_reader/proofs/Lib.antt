pub mod Attributes
pub mod ClassLaws
pub mod Ends
pub mod Fronts
pub mod Interfaces
pub mod Pools
