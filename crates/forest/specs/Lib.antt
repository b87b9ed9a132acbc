pub mod Scan
pub mod Forest
