pub mod Calls
pub mod ObjectSteps
