-- `Laws` has what is true of `specs/Bits.antt`, and `Unique` that results are unique, for this crate and the crates that use it.
-- `Listing` has what the loop of `list` keeps.
pub mod Laws
pub mod Listing
pub mod Unique
