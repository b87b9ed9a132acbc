-- The loop's invariant: x holds the bits of the labels passed.
use Rattle.std.proofs.Common.{◌≡◌}
use Rattle.sides.specs.Bits.{bits, labelled}
use Rattle.sides.proofs.word.Given as goal

abbrev pub invariant-loop-i : goal.invariant-loop-i
invariant-loop-i l = l.x ≡ bits 0 l.i (labelled l.label l.t)
