-- The loop's invariant: after r rows the degrees are those of the first r rows.
use Rattle.table.specs.Degrees.{Degrees}
use Rattle.table.proofs.rest.Rest.degrees.Given as goal

abbrev pub invariant-loop-r : goal.invariant-loop-r
invariant-loop-r l = Degrees l.r l.self.a l.self.b l.self.w l.fn.deg l.deg
