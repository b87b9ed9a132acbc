-- `name_runs` meets its contract: as many runs have begun as nodes passed, at most, and one at least, so the number of a node's run fits.
use Rattle.std.proofs.Common.{◌≤◌, ◌∙◌, arith}
use Rattle.laws.specs.Choose.{size_most}
use Rattle.method.specs.Floor.{begins}
use Rattle.laws.specs.Bools.{from_on}
use Rattle.table.proofs.Tests.{from_most}
use Rattle.table.proofs.Naming.{named_none, named_more}
use Rattle.table.proofs.rest.name_runs.Goals as goal

pub loop-p-init : goal.loop-p-init
loop-p-init c = named_none _ _ _ _

pub overflow_add-c : goal.overflow_add-c
overflow_add-c c =
    let one : c.from-c.result ≤ 1 = from_most _ c.from-c.ensures in
    omega (arith, c.loop-p.invariant.begun, size_most c.loop-p.p (begins c.args.back.now c.args.best))

pub overflow_cast-name : goal.overflow_cast-name
overflow_cast-name c =
    let one : c.from-c.result ≤ 1 = from_most _ c.from-c.ensures in
    omega (arith, c.loop-p.invariant.begun, size_most c.loop-p.p (begins c.args.back.now c.args.best))

pub loop-p-preserved : goal.loop-p-preserved
loop-p-preserved c =
    let p = c.loop-p.p in
    named_more
    c.loop-p.invariant
    c.from-c.result
    (c.from-c.ensures ∙ from_on _)
    c.requires.begun
    c.from.result
    c.from.ensures
    (omega (arith, c.requires.nodes p c.loop-p-test.true))
    (λ q h. c.requires.once q p (omega arith) (omega arith))
