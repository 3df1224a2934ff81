pub mod WalkRounds
pub mod OneWalk
