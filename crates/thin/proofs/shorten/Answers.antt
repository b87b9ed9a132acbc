-- `shorten` meets its contract: no more rows are written than passed, so there is a place for the next.
use Rattle.std.proofs.Common.{refl, arith, ◌∙◌}
use Rattle.thin.proofs.Shortening.{none, more, next_place}
use Rattle.thin.proofs.shorten.Goals as goal

pub loop-r-init : goal.loop-r-init
loop-r-init c = ((refl, refl, refl), none _)

pub put-at-requires : goal.put-at-requires
put-at-requires c = next_place c.loop-r.invariant.1 (omega arith) c.requires

pub loop-r-preserved : goal.loop-r-preserved
loop-r-preserved c =
    let e = c.put-at.ensures in
    let s = c.loop-r.invariant.0 in (
      (e.same.0 ∙ s.0, e.same.1 ∙ s.1, e.same.2 ∙ s.2),
      more c.loop-r.invariant.1 (omega arith) c.requires c.thinned-row.ensures e.put,
    )
