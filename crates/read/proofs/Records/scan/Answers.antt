-- `scan` meets its contract: each record takes the state to that of one record more and some of what is left of the run, a wrong record ends
-- the judged run as it ends this one, and at the end the state is the judged run's.
use Rattle.std.proofs.Common.{sym, ◌∙◌, arith}
use Rattle.read.specs.Scan.{tally}
use Rattle.read.proofs.State.{held_err, begins, ended, wrong, misplaced, onward}
use Rattle.read.proofs.Records.scan.Goals as goal

pub loop-at-init : goal.loop-at-init
loop-at-init c = record { going = begins _ _ _; light = omega arith }

pub returns-in_err-item : goal.returns-in_err-item
returns-in_err-item c =
    let g = c.loop-at.invariant.going in
    held_err tally _ _ c.from_residual.ensures.1 ∙ sym (wrong g c.loop-at-test.true (c.in_err-item.ensures.value g.found.seen))

pub returns-in_err-take : goal.returns-in_err-take
returns-in_err-take c =
    let g = c.loop-at.invariant.going in
    held_err tally _ _ c.from_residual-in_err-take.ensures.1
    ∙ sym (misplaced g c.loop-at-test.true _ _ (c.in_ok-item.ensures.value g.found.seen) (sym c.in_err-take.ensures.value))

pub loop-at-preserved : goal.loop-at-preserved
loop-at-preserved c =
    let g = c.loop-at.invariant.going in
    let forth = c.in_ok-item.ensures.forth in
    let light = c.in_ok-take.ensures.light in
    record {
      going = onward g c.loop-at-test.true _ _ (c.in_ok-item.ensures.value g.found.seen) (sym c.in_ok-take.ensures.value) forth.0;
      light = omega (arith, forth, light);
    }

pub returns : goal.returns
returns c = sym (ended c.loop-at.invariant.going c.loop-at-test.false)
