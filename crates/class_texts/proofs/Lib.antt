pub mod DescriptorLaws
pub mod Shapes
pub mod Tests
pub mod TextLaws
pub mod Texts
