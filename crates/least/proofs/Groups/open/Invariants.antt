-- The loop's invariant: below v every score is the mark or 0, and from v on it is as before.
use Rattle.std.proofs.Common.{eqb, get_or}
use Rattle.meaning.specs.Sums.{on}
use Rattle.laws.specs.Filling.{Upto}
use Rattle.table.specs.Table.{mark}
use Rattle.least.proofs.Groups.open.Given as goal

abbrev pub invariant-loop-v : goal.invariant-loop-v
invariant-loop-v l = Upto (λ u. on (eqb (get_or l.self.label u 0) u) mark) l.v l.initial.score l.score
