pub mod ClassSteps
pub mod ShapeSteps
pub mod SignatureSteps
pub mod VainWalks
