pub mod Lists
pub mod Births
pub mod Entries
pub mod Tickets
pub mod Pages
pub mod Steps
pub mod Serving
pub mod Standings
