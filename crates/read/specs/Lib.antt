pub mod Scan
pub mod Records
pub mod Fill
