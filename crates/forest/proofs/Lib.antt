pub mod Turning
pub mod Reach
pub mod Numbering
pub mod Along
pub mod Call
