-- `first_of` meets its contract: no block before has the score, and from the block that has it on, the first one with it is the first of all.
use Rattle.std.proofs.Common.{arith, sym, ◌∙◌, ◌+◌, ◌≤◌, ◌≡◌, get_or}
use Rattle.table.specs.Table.{NoneBefore}
use Rattle.table.proofs.Scores.{not_before, block_passed, first_found, some_from}
use Rattle.table.proofs.first_of.Goals as goal

pub loop-v-preserved : goal.loop-v-preserved
loop-v-preserved c =
    let s = c.requires.some in
    let none : NoneBefore c.args.score.now c.args.top (c.loop-v.v + 8) =
    block_passed c.args.score.now c.args.top c.loop-v.v c.loop-v.invariant.2 (omega arith) (sym c.any_of.ensures ∙ c.loop-v-test.true) in
    let left : c.loop-v.v + 8 ≤ s.0 = not_before {P = λ u. get_or c.args.score.now u 0 ≡ c.args.top} _ s.0 none s.2 in
    (omega arith, omega (arith, s.1), none)

pub unwrap-requires : goal.unwrap-requires
unwrap-requires c =
    let s = c.requires.some in
    rw c.first_in.ensures
    (some_from c.args.score.now c.args.top c.loop-v.v c.loop-v.invariant.2 _ s.0 (omega (arith, s.1)) (omega arith) s.2)

pub returns : goal.returns
returns c =
    let f = first_found c.args.score.now c.args.top c.loop-v.v c.loop-v.invariant.2 _ (sym c.first_in.ensures ∙ c.unwrap.ensures) in
    record { found = f.0; first = f.1 }
