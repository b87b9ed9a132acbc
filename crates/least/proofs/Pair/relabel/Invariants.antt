-- The loop's invariant: the labels passed are moved, and the others are as before.
use Rattle.std.proofs.Common.{get_or}
use Rattle.laws.specs.Rounds.{moved}
use Rattle.laws.specs.Filling.{Upto}
use Rattle.least.proofs.Pair.relabel.Given as goal

abbrev pub invariant-loop-t : goal.invariant-loop-t
invariant-loop-t l = Upto (λ u. moved l.self.keep l.self.gone (get_or l.initial.label u 0)) l.t-index l.initial.label l.label
