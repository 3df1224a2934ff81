pub mod ClassFiles
pub mod Linking
pub mod LinkFaults
