-- The loop's invariant: below y the row holds what the sums held, and the sums have the row added; from y on both are as they were.
use Rattle.std.proofs.Common.{◌+◌, get_or}
use Rattle.laws.specs.Filling.{Upto}
use Rattle.forest.proofs.exchange.Given as goal

abbrev pub invariant-loop-y : goal.invariant-loop-y
invariant-loop-y l = record {
  row : Upto (λ v. get_or l.fn.sums v 0) l.y l.fn.row l.row;
  sums : Upto (λ v. get_or l.fn.sums v 0 + get_or l.fn.row v 0) l.y l.fn.sums l.sums;
}
