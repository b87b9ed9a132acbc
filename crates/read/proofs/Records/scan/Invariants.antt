-- The loop's invariant: the state is that of the records found so far (`Going`), and it is light at the offset reached.
-- The measure is what is left of the run.
use Rattle.std.proofs.Common.{◌-◌, length}
use Rattle.read.specs.Records.{run_in}
use Rattle.read.specs.Scan.{Light, tally}
use Rattle.read.proofs.State.{Going}
use Rattle.read.proofs.Records.scan.Given as goal

abbrev pub invariant-loop-at : goal.invariant-loop-at
invariant-loop-at l = record { going : Going l.bytes (length l.bytes) (run_in l.self) l.at (tally l.scan); light : Light l.at l.scan }

abbrev pub decreases-loop-at : goal.decreases-loop-at
decreases-loop-at l = length l.bytes - l.at
