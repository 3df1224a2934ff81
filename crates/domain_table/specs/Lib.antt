pub mod DomainLists
pub mod Inner
