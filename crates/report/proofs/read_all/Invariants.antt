-- What was read lies within the space. The measure is the space that is left, since a turn that goes on has read something.
use Rattle.std.proofs.Common.{length, ◌-◌, ◌≤◌}
use Rattle.report.proofs.read_all.Given as goal

abbrev pub invariant-loop-size : goal.invariant-loop-size
invariant-loop-size g l = l.size ≤ length l.file

abbrev pub decreases-loop-size : goal.decreases-loop-size
decreases-loop-size g l = length l.initial.file - l.size
