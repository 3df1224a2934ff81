pub mod RunsAlone
pub mod Workers
pub mod Ends
pub mod RunLaws
