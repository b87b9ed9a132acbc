pub mod Rounds
pub mod Grouping
