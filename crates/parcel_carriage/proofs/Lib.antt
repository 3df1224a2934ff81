pub mod Picked
pub mod Standing
pub mod ObjectSteps
pub mod PortalSteps
