pub mod Attributes
pub mod Classes
pub mod Pools
pub use Rattle.class_texts.specs.Texts
