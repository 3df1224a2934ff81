pub mod EndedTables
pub mod NewDomains
pub mod OwnedServices
