-- Nothing was added before the loop, and each turn adds one number more of the list (`spaced_more`).
use Rattle.std.proofs.Common.{arith}
use Rattle.std.proofs.lemmas.Grind.{common_steps}
use Rattle.meaning.specs.Report.{spaced}
use Rattle.reporting.proofs.Spaced.{spaced_more}
use Rattle.reporting.proofs.Text.numbers.Goals as goal

pub loop-x-init : goal.loop-x-init
unfolding spaced
loop-x-init c = grind (arith, common_steps)

pub loop-x-preserved : goal.loop-x-preserved
loop-x-preserved c = rw (← spaced_more c.args.xs.now c.loop-x.x-index (omega arith)) (grind (arith, common_steps))
