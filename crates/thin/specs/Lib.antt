pub mod Passes
pub mod Thin
