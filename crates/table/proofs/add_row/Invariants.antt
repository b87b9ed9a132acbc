-- The loop's invariant is `Adding`: the pass so far.
use Rattle.table.proofs.Scores.{Adding}
use Rattle.table.proofs.add_row.Given as goal

abbrev pub invariant-loop-v : goal.invariant-loop-v
invariant-loop-v l = Adding l.row l.fn.score l.score l.top l.v
