pub mod CallLists
pub mod Inner
pub mod Linked
pub mod Links
pub mod QueueLists
