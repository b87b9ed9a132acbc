-- The loop's invariant is `Squeezing`: of the first r rows those that stay are at the front, and the rows from r on are as given.
use Rattle.table.proofs.Squeezing.{Squeezing}
use Rattle.table.proofs.rest.squeeze.Given as goal

abbrev pub invariant-loop-r : goal.invariant-loop-r
invariant-loop-r l = Squeezing l.r l.name l.fn.a l.fn.b l.fn.w l.a l.b l.w l.to
