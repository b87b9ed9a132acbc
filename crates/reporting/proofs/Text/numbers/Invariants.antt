-- The loop's invariant: the numbers passed were added.
use Rattle.std.proofs.Common.{take}
use Rattle.meaning.specs.Report.{spaced}
use Rattle.reporting.specs.Adds.{Adds}
use Rattle.reporting.proofs.Text.numbers.Given as goal

abbrev pub invariant-loop-x : goal.invariant-loop-x
invariant-loop-x l = Adds l.initial.self l.self (spaced (take l.x-index l.xs))
