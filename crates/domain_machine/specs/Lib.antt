pub mod Fates
pub mod Machines
pub mod Works
pub mod Advancing
pub mod Taking
pub mod Entering
