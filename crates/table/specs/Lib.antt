pub mod Table
pub mod Floor
pub mod Degrees
pub mod Hang
pub mod Kept
pub mod Rest
