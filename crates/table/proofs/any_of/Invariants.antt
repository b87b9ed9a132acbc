-- The loop's invariant: whether one of the scores so far is `top`.
use Rattle.std.proofs.Common.{◌≡◌, take, eqb}
use Rattle.std.specs.List.{list_any}
use Rattle.table.proofs.any_of.Given as goal

abbrev pub invariant-loop-s : goal.invariant-loop-s
invariant-loop-s l = l.any ≡ list_any (λ s. eqb s l.top) (take l.s-index l.scores)
