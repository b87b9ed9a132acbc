-- The loop's invariant: no node of the blocks passed has the score. So, as some node has it, a block is left; the measure is what is left.
use Rattle.std.proofs.Common.{◌≡◌, ◌<◌, ◌-◌, ◌%◌}
use Rattle.table.specs.Table.{NoneBefore}
use Rattle.table.proofs.first_of.Given as goal

abbrev pub invariant-loop-v : goal.invariant-loop-v
invariant-loop-v l = (l.v % 8 ≡ 0) × (l.v < 128) × NoneBefore l.score l.top l.v

abbrev pub decreases-loop-v : goal.decreases-loop-v
decreases-loop-v l = 128 - l.v
