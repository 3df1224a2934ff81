pub mod FlagLists
