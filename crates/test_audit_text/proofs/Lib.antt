pub mod HandMade
mod CallsMade
