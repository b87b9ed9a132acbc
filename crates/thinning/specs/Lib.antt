-- Forest numbers and thinning. Read the files in this order.
pub mod Place
pub mod Ends
pub mod Arrived
pub mod Scan
pub mod Kept
pub mod Cuts
pub mod Short
pub mod Same
