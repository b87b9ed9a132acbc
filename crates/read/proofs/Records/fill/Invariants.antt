-- The loop's invariant: the lists are the lent ones and hold the rows found so far (`Filling`). The measure is what is left of the run.
use Rattle.std.proofs.Common.{◌-◌, length}
use Rattle.lists.specs.Given.{SameLists}
use Rattle.read.specs.Records.{run_in}
use Rattle.read.proofs.Filling.{Filling}
use Rattle.read.proofs.Records.fill.Given as goal

abbrev pub invariant-loop-at : goal.invariant-loop-at
invariant-loop-at l =
    SameLists l.fn.out l.out
    × Filling l.bytes (run_in l.self) l.fn.out.a.now l.fn.out.b.now l.fn.out.w.now l.out.a.now l.out.b.now l.out.w.now l.at l.i

abbrev pub decreases-loop-at : goal.decreases-loop-at
decreases-loop-at l = length l.bytes - l.at
