pub mod Shortening
pub mod Numbers
pub mod Same
pub mod Call
