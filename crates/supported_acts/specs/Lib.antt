pub mod SupportedActs
