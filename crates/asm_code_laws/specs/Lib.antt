pub mod CodeLaws
pub mod Written
