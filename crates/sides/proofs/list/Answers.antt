-- `list` meets its contract: as long as a place is left so is a bit, and a turn moves the lowest to what is written.
use Rattle.std.proofs.Common.{arith}
use Rattle.sides.proofs.Listing.{begins, low, isset, goes_on, ends}
use Rattle.sides.proofs.list.Goals as goal

pub loop-place-init : goal.loop-place-init
loop-place-init c = begins c.args.x c.args.from c.args.out.now c.ranges.x.fits c.requires.1

pub overflow_shl-rest : goal.overflow_shl-rest
overflow_shl-rest c = low c.loop-place.invariant (omega arith)

pub overflow_sub-rest : goal.overflow_sub-rest
overflow_sub-rest c = isset c.loop-place.invariant (omega arith)

pub loop-place-preserved : goal.loop-place-preserved
loop-place-preserved c = goes_on c.loop-place.invariant (omega arith)

pub returns : goal.returns
returns c = ends c.loop-place.invariant (omega arith)
