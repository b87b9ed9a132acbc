-- Laws about the definitions of `meaning`, one file to an idea.
pub mod Bools
pub mod Sums
pub mod Lists
pub mod Filling
pub mod Rows
pub mod Choose
pub mod Order
pub mod Accept
pub mod Words
pub mod Rounds
