-- The loop's invariant is `Written`: the digits of x are those of `rest`, and then those that stand from `from` on.
-- The measure is `rest`, which ten divides.
use Rattle.text.proofs.Digits.{Written}
use Rattle.text.proofs.digits_of.Given as goal

abbrev pub invariant-loop-rest : goal.invariant-loop-rest
invariant-loop-rest l = Written l.x l.space l.rest l.from

abbrev pub decreases-loop-rest : goal.decreases-loop-rest
decreases-loop-rest l = l.rest
