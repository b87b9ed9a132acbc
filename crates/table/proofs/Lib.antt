-- `Cells`: a row's two stores, and the table row by row. `Scores`: the pass of `add_row`, looking for a score, and placing a node.
-- `Others`: what one more placed node changes. `Running`: the turns of `run`. `Begin`: what an accepted list has, for `fill` and `run`.
-- `Tests`: a test as a number. `Naming`: nodes named by their runs. `Squeezing`: rows renamed in place, without those whose ends became one.
-- `Counting`: each node's cables. `Hanging`: nodes hung on a neighbour. `Gathering`: nodes named by their targets.
-- `Storing`: a list in the first rows of three lists. `Sinking`: the list shrunk by its runs, until it is one. `Fastening`: by what hangs.
pub mod Cells
pub mod Scores
pub mod Others
pub mod Running
pub mod Begin
pub mod Tests
pub mod Naming
pub mod Squeezing
pub mod Counting
pub mod Gathering
pub mod Hanging
pub mod Storing
pub mod Sinking
pub mod Fastening
