pub mod FirstClass
pub mod FirstSystem
