-- What document 01 means. Read the files in this order, with the document beside them.
pub mod Sums
pub mod Numbers
pub mod Links
pub mod Order
pub mod Forest
pub mod Split
pub mod File
pub mod Report
pub mod Calls
pub mod Examples
