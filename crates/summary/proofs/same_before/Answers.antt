-- A list that passed has columns of one length and few rows, and `rows_like` counts by place (`pairs_by_place`).
use Rattle.std.proofs.Common.{false, arith, ◌∙◌, get_or}
use Rattle.lists.specs.Given.{given_by}
use Rattle.lists.proofs.Passed.{passed}
use Rattle.summary.proofs.Counts.{pairs_by_place}
use Rattle.summary.proofs.same_before.Goals as goal

pub returns : goal.returns
returns c =
    let l = c.args.list.now.links in
    let good = passed (given_by l) false c.args.list.now.passed in
    c.rows_like.ensures ∙ pairs_by_place l.a.now l.b.now c.args.r (get_or l.a.now c.args.r 0) (get_or l.b.now c.args.r 0) (omega arith) (omega arith)
