pub mod ExtentLists
pub mod Cells
pub mod SpaceLists
pub mod Backing
pub mod Numbers
