-- The loop's invariant is `Filling`: the rows so far are in the table.
use Rattle.table.proofs.Cells.{Filling}
use Rattle.table.proofs.fill.Given as goal

abbrev pub invariant-loop-r : goal.invariant-loop-r
invariant-loop-r l = Filling l.a l.b l.w l.m l.r
