-- `digits_of` meets its contract: each digit keeps `Written`, and with the last one the number's decimal stands from `from` on.
use Rattle.std.proofs.Common.{arith}
use Rattle.text.proofs.Digits.{begins, next, ends}
use Rattle.text.proofs.digits_of.Goals as goal

pub loop-rest-init : goal.loop-rest-init
loop-rest-init c = begins c.args.x c.args.space.now c.ranges.x.fits (omega arith)

pub loop-rest-preserved : goal.loop-rest-preserved
loop-rest-preserved c = next c.loop-rest.invariant c.loop-rest-test.true

pub returns : goal.returns
returns c =
    record { digits = ends c.loop-rest.invariant c.loop-rest-test.false; within = (omega arith, omega arith) }
