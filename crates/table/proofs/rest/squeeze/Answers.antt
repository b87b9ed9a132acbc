-- `squeeze` meets its contract: a row goes to a place at or before its own, so `Squeezing` goes on by a row.
use Rattle.std.proofs.Common.{arith}
use Rattle.laws.specs.Bools.{from_on}
use Rattle.table.proofs.Squeezing.{squeezing_none, squeezing_more}
use Rattle.table.proofs.rest.squeeze.Goals as goal

pub loop-r-init : goal.loop-r-init
loop-r-init c = squeezing_none _ _ _ _

pub loop-r-preserved : goal.loop-r-preserved
loop-r-preserved c =
    rw (c.from-to.ensures, c.from.ensures, c.from-in-loop-r.ensures, from_on)
    (squeezing_more c.loop-r.invariant (omega arith) (omega arith) (omega arith))
