-- The loop's invariant: the first r rows are folded.
use Rattle.least.specs.Rounds.{ColumnFolded}
use Rattle.least.proofs.Pair.fold_column.Given as goal

abbrev pub invariant-loop-r : goal.invariant-loop-r
invariant-loop-r l = ColumnFolded l.keep l.gone l.r l.initial.m l.m
