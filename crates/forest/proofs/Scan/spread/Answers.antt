-- `spread` meets its contract: the invariant is `Turning`. The next node's row is still its own, so the sums stay those of the rows above.
use Rattle.std.proofs.Common.{ℕ, arith}
use Rattle.std.proofs.lemmas.List.{get_or-replicate}
use Rattle.forest.proofs.Turning.{begins, room, next}
use Rattle.forest.proofs.Scan.spread.Goals as goal

pub loop-p-init : goal.loop-p-init
loop-p-init c = begins _ _ _ _ (λ y h. get_or-replicate {A = ℕ} 128 y 0 0 h)

pub exchange_row-requires-clause-fits : goal.exchange_row-requires-clause-fits
exchange_row-requires-clause-fits c = rw c.from-x.ensures (room c.loop-p.invariant c.requires (omega arith))

pub loop-p-preserved : goal.loop-p-preserved
loop-p-preserved c =
    rw c.from-x.ensures (next c.loop-p.invariant c.requires (omega arith) (omega arith) (rw c.from-x.ensures at c.exchange_row.ensures))
