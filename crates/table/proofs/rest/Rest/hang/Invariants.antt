-- What the rows so far hung, and that its targets are held.
use Rattle.table.proofs.Hanging.{Hanging}
use Rattle.table.proofs.rest.Rest.hang.Given as goal

abbrev pub invariant-loop-r : goal.invariant-loop-r
invariant-loop-r l = Hanging l.self.nodes l.r l.self.a l.self.b l.self.w l.deg l.fn.to l.to l.held
