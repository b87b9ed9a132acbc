-- The loop's invariant: the rows passed are fine, and `total` is the sum of their weights.
use Rattle.meaning.specs.Links.{list_of}
use Rattle.lists.specs.Given.{given_by}
use Rattle.lists.proofs.Through.{Through}
use Rattle.lists.proofs.Links.check_rows.Given as goal

abbrev pub invariant-loop-r : goal.invariant-loop-r
invariant-loop-r l = Through (list_of (given_by l.self)) l.total l.r
