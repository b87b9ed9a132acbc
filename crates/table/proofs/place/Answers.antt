-- `place` meets its contract: x's mark is off and its row added (`add_row`), and the first node with the highest score is the next.
use Rattle.std.proofs.Common.{arith}
use Rattle.table.proofs.Scores.{placed_done}
use Rattle.table.proofs.place.Goals as goal

pub returns : goal.returns
returns c =
    placed_done c.args.n c.args.x c.args.m.now c.args.score.now c.add_row-top.new.score _ c.first_of.result c.requires.few_nodes c.requires.inside
    (omega (arith, c.requires.inside)) c.add_row-top.ensures c.first_of.ensures.found c.first_of.ensures.first
