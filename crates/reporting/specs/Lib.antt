pub mod Adds
pub mod Words
pub mod Reported
