-- The loop's invariant: what is written so far, with the set bits of `rest`, are the set bits of x.
use Rattle.sides.proofs.Listing.{Listing}
use Rattle.sides.proofs.list.Given as goal

abbrev pub invariant-loop-place : goal.invariant-loop-place
invariant-loop-place l = Listing l.x l.from l.out l.rest l.place-index
