-- The loop's invariant is `Turning`: the table is turned along the first p nodes of the order.
use Rattle.forest.proofs.Turning.{Turning}
use Rattle.forest.proofs.Scan.spread.Given as goal

abbrev pub invariant-loop-p : goal.invariant-loop-p
invariant-loop-p l = Turning l.order l.fn.self.m l.p l.self.m l.sums l.self.place
