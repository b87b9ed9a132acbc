-- `order_of` meets its contract: the list passed its checks, so `fill` may fill the zeros, and with all marks set `run` may begin.
use Rattle.std.proofs.lemmas.List.{get_or-replicate}
use Rattle.meaning.specs.Order.{all}
use Rattle.lists.specs.Given.{given_by, list_by}
use Rattle.table.proofs.Begin.{passed_rows, passed_ready}
use Rattle.table.proofs.order_of.Goals as goal

pub fill-requires : goal.fill-requires
fill-requires c =
    record {
      rows = passed_rows (given_by c.args.list.now.links) c.args.list.now.words c.args.list.now.passed;
      zeros = λ i h. get_or-replicate 16384 i 0 0 h;
    }

pub run-requires-clause-ready : goal.run-requires-clause-ready
run-requires-clause-ready c =
    let g = given_by c.args.list.now.links in
    (list_by c.args.list.now.links, all, rw c.nodes-n.ensures (passed_ready g c.args.list.now.words c.args.list.now.passed _ (c.fill.ensures g.n)))

pub returns : goal.returns
returns c =
    let g = given_by c.args.list.now.links in
    rw c.nodes-n.ensures at (c.run.ensures (list_by c.args.list.now.links) all (rw c.nodes-n.ensures (passed_ready g c.args.list.now.words c.args.list.now.passed _ (c.fill.ensures g.n))))
