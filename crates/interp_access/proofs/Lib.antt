pub mod ArrayNames
pub mod LengthLaws
pub mod NestedLaws
pub mod RowForms
pub mod StaticTypes
pub mod Tops
