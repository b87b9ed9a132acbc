pub mod Checks
pub mod Passed
pub mod Through
