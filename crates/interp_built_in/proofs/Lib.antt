pub mod TextSteps
pub mod SuperSteps
pub mod TableSteps
pub mod CallSteps
