pub mod Indexed
pub mod KeysAlike
pub mod Keys
pub mod Parts
pub mod Fields
pub mod Methods
pub mod Catches
