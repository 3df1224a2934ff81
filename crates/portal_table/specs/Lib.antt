pub mod NameLists
pub mod NamesInside
pub mod ServiceLists
pub mod ServicesInside
