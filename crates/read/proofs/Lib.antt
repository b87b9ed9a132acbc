pub mod Items
pub mod State
pub mod Filling
pub mod Trailer
pub mod Outcome
