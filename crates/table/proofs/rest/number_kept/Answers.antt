-- `number_kept` meets its contract: c of the first v nodes are their own target, and that is the next number.
use Rattle.std.proofs.Common.{◌≡◌, ◌≤◌, eqb, sym, ap, ◌∙◌, arith}
use Rattle.meaning.specs.Sums.{on}
use Rattle.laws.specs.Filling.{upto_none, upto_more}
use Rattle.laws.specs.Choose.{size_none, size_most}
use Rattle.table.specs.Kept.{own}
use Rattle.laws.specs.Bools.{from_on}
use Rattle.table.proofs.Tests.{from_most}
use Rattle.table.proofs.Gathering.{own_more}
use Rattle.table.proofs.rest.number_kept.Goals as goal

pub loop-v-init : goal.loop-v-init
loop-v-init c = (sym (size_none (own c.args.to.now)), upto_none _ _)

pub overflow_cast-name : goal.overflow_cast-name
overflow_cast-name c = omega (arith, size_most c.loop-v.v (own c.args.to.now))

pub loop-v-preserved : goal.loop-v-preserved
loop-v-preserved c =
    let l = c.loop-v in
    let one : c.from-c.result ≡ on (own c.args.to.now l.v) 1 =
    c.from-c.ensures ∙ from_on _ ∙ ap (λ x. on (eqb x l.v) 1) c.from.ensures in (
      own_more c.args.to.now l.v l.invariant.0 one,
      upto_more l.c l.invariant.1 (omega arith) l.invariant.0,
    )

pub overflow_add-c : goal.overflow_add-c
overflow_add-c c =
    let one : c.from-c.result ≤ 1 = from_most _ c.from-c.ensures in
    omega (arith, size_most c.loop-v.v (own c.args.to.now))
