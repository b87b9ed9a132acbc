-- Why the method is right, for every accepted list; document 01's "demand 3" and its uniqueness.
pub mod Division
pub mod Claim
pub mod Order
pub mod Least
pub mod Question
pub mod Side
pub mod Limits
pub mod Floor
pub mod Hang
pub mod Wrong
