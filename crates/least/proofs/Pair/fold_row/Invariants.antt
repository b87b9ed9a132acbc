-- The loop's invariant: the first c columns are folded.
use Rattle.least.specs.Rounds.{RowFolded}
use Rattle.least.proofs.Pair.fold_row.Given as goal

abbrev pub invariant-loop-c : goal.invariant-loop-c
invariant-loop-c l = RowFolded l.keep l.gone l.c l.initial.m l.m
