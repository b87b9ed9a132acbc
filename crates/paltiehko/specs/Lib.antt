pub mod Layout
pub mod Leaves
