pub mod KeysAlike
pub mod Places
pub mod OwnFields
pub mod Walked
pub mod LookUps
pub mod Visits
