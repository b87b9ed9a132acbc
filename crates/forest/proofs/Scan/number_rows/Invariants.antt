-- The loop's invariant: the rows from the next on may be numbered, and the numbers of those passed are laid at the front of the list.
use Rattle.std.proofs.Common.{◌≡◌}
use Rattle.meaning.specs.Sums.{listed, laid}
use Rattle.meaning.specs.Forest.{first}
use Rattle.meaning.specs.Calls.{order0}
use Rattle.lists.specs.Given.{given_by, list_by}
use Rattle.forest.specs.Scan.{Scannable}
use Rattle.forest.proofs.Scan.number_rows.Given as goal

abbrev pub invariant-loop-r : goal.invariant-loop-r
invariant-loop-r l = record {
  scannable : Scannable (list_by l.list.links) (order0 (given_by l.list.links)) l.r l.self.place l.self.m;
  laid_so_far : l.first ≡ laid (listed l.r (first (list_by l.list.links) (order0 (given_by l.list.links)))) l.fn.first;
}
