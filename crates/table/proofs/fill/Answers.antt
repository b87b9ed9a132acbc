-- `fill` meets its contract: each `join` puts one row more in the table (`filling_more`), and no place gets too large for it (`filling_light`).
use Rattle.std.proofs.Common.{◌≡◌, length, arith}
use Rattle.table.proofs.Cells.{filling_none, filling_more, filling_light, filling_done}
use Rattle.table.proofs.fill.Goals as goal

pub loop-r-init : goal.loop-r-init
loop-r-init c = filling_none _ _ _ _ (omega arith) c.requires.zeros

pub join-requires-clause-light : goal.join-requires-clause-light
join-requires-clause-light c =
    let w = c.type_inv.w in
    λ i h.
    omega (
      arith,
      filling_light c.loop-r.invariant (λ j k. omega (arith, w j)) i h,
      w c.loop-r.r,
      c.requires.rows.few,
    )

pub loop-r-preserved : goal.loop-r-preserved
loop-r-preserved c = filling_more c.loop-r.invariant c.from.ensures c.from-in-loop-r.ensures c.from-in-loop-r-2.ensures c.join.ensures

pub returns : goal.returns
returns c =
    let end : c.loop-r.r ≡ length c.args.links.now.a.now = omega arith in
    filling_done (rw end at c.loop-r.invariant) c.requires.rows.apart
