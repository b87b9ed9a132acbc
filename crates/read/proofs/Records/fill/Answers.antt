-- `fill` meets its contract: what `Laying` says of each record is what a turn needs, and leads to the next.
use Rattle.std.proofs.Common.{refl, arith, ◌∙◌}
use Rattle.read.proofs.Filling.{starts, laying, filled}
use Rattle.read.proofs.Records.fill.Goals as goal

pub loop-at-init : goal.loop-at-init
loop-at-init c = ((refl, refl, refl), starts _ _ _ _ _)

pub lay-i-requires : goal.lay-i-requires
lay-i-requires c =
    let r = laying c.requires c.loop-at.invariant.1 c.loop-at-test.true in
    record { within = omega (arith, r.some, r.within); lays = r.lays }

pub loop-at-smaller : goal.loop-at-smaller
loop-at-smaller c =
    let r = laying c.requires c.loop-at.invariant.1 c.loop-at-test.true in
    omega (arith, r.some, c.from-at.ensures, c.loop-at-test.true)

pub loop-at-preserved : goal.loop-at-preserved
loop-at-preserved c =
    let e = c.lay-i.ensures in
    let s = c.loop-at.invariant.0 in (
      (e.same.0 ∙ s.0, e.same.1 ∙ s.1, e.same.2 ∙ s.2),
      rw (e.value, e.a_after, e.b_after, e.w_after, c.from-at.ensures) (laying c.requires c.loop-at.invariant.1 c.loop-at-test.true).onward,
    )

pub returns : goal.returns
returns c =
    let all = filled c.requires c.loop-at.invariant.1 c.loop-at-test.false in
    record { same = c.loop-at.invariant.0; a_after = all.0; b_after = all.1.0; w_after = all.1.1 }
