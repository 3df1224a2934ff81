pub mod HandMade
pub mod CallsMade
