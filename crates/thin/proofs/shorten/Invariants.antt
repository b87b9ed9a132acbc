-- The loop's invariant: the lists are the lent ones, and those of the first r rows that keep something are laid at the front of the three lists.
use Rattle.lists.specs.Given.{list_by, SameLists}
use Rattle.thin.specs.Passes.{Shortened}
use Rattle.thin.proofs.shorten.Given as goal

abbrev pub invariant-loop-r : goal.invariant-loop-r
invariant-loop-r l =
    SameLists l.fn.out l.out
    × Shortened l.k l.first (list_by l.list.links) l.r l.fn.out l.out l.at
