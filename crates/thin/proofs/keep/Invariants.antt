-- The loop's invariant: the kept weights of the first r rows are laid at the front of the list.
use Rattle.std.proofs.Common.{◌≡◌}
use Rattle.meaning.specs.Sums.{listed, laid}
use Rattle.lists.specs.Given.{list_by}
use Rattle.thin.specs.Passes.{kept_at}
use Rattle.thin.proofs.keep.Given as goal

abbrev pub invariant-loop-r : goal.invariant-loop-r
invariant-loop-r l = l.kept ≡ laid (listed l.r (kept_at l.k l.first (list_by l.list.links))) l.fn.kept
