pub mod Asking
pub mod CallActs
