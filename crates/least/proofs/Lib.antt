-- `Cells`: stores in the table, and folding two groups. `Merging`: the folded table is that of the merged groups. `Noting`: the better
-- division. `Grouping`: a state of the rounds, and one round. `Going`: all rounds. `First`: the first round alone. `Outcome`: what the calls
-- answer. `Demand`: demand 3 of it.
pub mod Cells
pub mod Merging
pub mod Noting
pub mod Grouping
pub mod Going
pub mod First
pub mod Outcome
pub mod Demand
