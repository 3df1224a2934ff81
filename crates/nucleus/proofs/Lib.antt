pub mod EnteredActs
