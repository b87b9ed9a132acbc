-- The loop's invariant: below v every place holds its own number.
use Rattle.laws.specs.Filling.{Upto}
use Rattle.table.proofs.rest.number.Given as goal

abbrev pub invariant-loop-v : goal.invariant-loop-v
invariant-loop-v l = Upto (λ u. u) l.v l.initial.label l.label
