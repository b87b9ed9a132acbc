-- The loop's invariant: the kind 1 record and those of the first r rows are laid at the front.
use Rattle.std.proofs.Common.{◌≡◌}
use Rattle.meaning.specs.Sums.{laid}
use Rattle.lists.specs.Given.{list_by}
use Rattle.write.proofs.Stores.{begun}
use Rattle.write.proofs.put_file.Given as goal

abbrev pub invariant-loop-r : goal.invariant-loop-r
invariant-loop-r l = l.out ≡ laid (begun (list_by l.list.links) l.r) l.fn.out
