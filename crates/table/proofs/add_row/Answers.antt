-- `add_row` meets its contract: each step adds one number of the row, and raises the highest so far to the sum or keeps it.
use Rattle.std.proofs.Common.{arith}
use Rattle.table.proofs.Scores.{adding_more}
use Rattle.table.proofs.add_row.Goals as goal

pub loop-v-preserved : goal.loop-v-preserved
loop-v-preserved c = adding_more _ c.loop-v.invariant (omega arith) c.max-top.ensures
