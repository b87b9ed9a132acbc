pub mod Answered
pub mod Spaced
pub mod Nodes
pub mod Members
pub mod Ordering
pub mod Listing
pub mod Reading
pub mod Outcome
