pub mod CallTables
pub mod Entering
pub mod Inner
pub mod NucleusStates
pub mod PlaceLists
pub mod Portals
pub mod Riding
pub mod Stepping
