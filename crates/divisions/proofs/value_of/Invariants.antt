-- The loop's invariant: the sum so far is at most 65,535 for each row passed.
use Rattle.std.proofs.Common.{◌≤◌, ◌*◌}
use Rattle.divisions.proofs.value_of.Given as goal

abbrev pub invariant-loop-r : goal.invariant-loop-r
invariant-loop-r l = l.sum ≤ 65535 * l.r
