-- c of the first v nodes are their own target, and each of them has the number of those before it.
use Rattle.std.proofs.Common.{◌≡◌}
use Rattle.laws.specs.Filling.{Upto}
use Rattle.table.specs.Kept.{kept_below}
use Rattle.table.proofs.rest.number_kept.Given as goal

abbrev pub invariant-loop-v : goal.invariant-loop-v
invariant-loop-v l = (l.c ≡ kept_below l.to l.v) × Upto (kept_below l.to) l.v l.fn.name l.name
