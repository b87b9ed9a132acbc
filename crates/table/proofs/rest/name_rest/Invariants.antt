-- The first v nodes have their targets' names, the others their own.
use Rattle.std.proofs.Common.{get_or}
use Rattle.laws.specs.Filling.{Upto}
use Rattle.table.proofs.rest.name_rest.Given as goal

abbrev pub invariant-loop-v : goal.invariant-loop-v
invariant-loop-v l = Upto (λ u. get_or l.fn.name (get_or l.to u 0) 0) l.v l.fn.name l.name
