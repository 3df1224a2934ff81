pub mod Shapes
pub mod Signatures
pub mod Vain
