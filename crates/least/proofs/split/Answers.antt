-- `split` meets its contract: with two nodes or more the answer is what `division` notes.
use Rattle.lists.specs.Given.{given_by}
use Rattle.least.proofs.Outcome.{node_bounds, gives}
use Rattle.std.proofs.Common.{arith}
use Rattle.least.proofs.split.Goals as goal

pub division-requires : goal.division-requires
division-requires c =
    let bounds = node_bounds (given_by c.args.list.now.links) c.args.list.now.passed in
    omega arith

pub returns : goal.returns
returns c = gives (given_by c.args.list.now.links) c.if-list-eq1.false c.division.ensures
