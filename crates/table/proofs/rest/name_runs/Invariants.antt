-- The loop's invariant: the first p nodes are named, and c runs have begun.
use Rattle.table.specs.Floor.{Named}
use Rattle.table.proofs.rest.name_runs.Given as goal

abbrev pub invariant-loop-p : goal.invariant-loop-p
invariant-loop-p l = Named l.p l.best l.order l.back l.fn.name l.name l.c
