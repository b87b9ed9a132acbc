-- The loop's invariant: what no division of the list that is left is below, up to `best`, none of the given list is below. The measure is the
-- number of nodes left.
use Rattle.table.specs.Rest.{left_of}
use Rattle.table.proofs.Sinking.{Sunk}
use Rattle.table.proofs.rest.Rest.sink.Given as goal

abbrev pub invariant-loop-best : goal.invariant-loop-best
invariant-loop-best l = Sunk (left_of l.fn.self) l.self l.best l.order l.back

abbrev pub decreases-loop-best : goal.decreases-loop-best
decreases-loop-best l = l.self.nodes
