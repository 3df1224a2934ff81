pub mod StepParts
pub mod Unchanged
pub mod ActSteps
pub mod PlainSteps
pub mod FirstKept
pub mod RecordForms
pub mod EndSteps
