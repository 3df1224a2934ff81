pub mod Positions
pub mod SelectorKeys
pub mod Layouts
pub mod SelectorLists
pub mod SourceLists
pub mod ArrayNames
pub mod CatchArrays
pub mod FileArrays
