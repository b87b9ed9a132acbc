-- `Outcome`: both lent lists have room for the order of a list that passes, and the call has one outcome for each input.
pub mod Outcome
