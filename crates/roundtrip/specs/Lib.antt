-- Theorems on the file: its layout, the round trip of the definitions and of the calls, and the numbers that the reader can answer.
pub mod Layout
pub mod RoundTrip
pub mod Promises
pub mod WriteRead
pub mod Unique
pub mod Numbers
