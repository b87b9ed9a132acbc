-- `turn` meets its contract: with every node marked the order is run from node 0, and the table is turned along it.
use Rattle.meaning.specs.Order.{all}
use Rattle.lists.specs.Given.{list_by}
use Rattle.forest.proofs.Along.{ready, run_turnable, run_scannable}
use Rattle.forest.proofs.Scan.turn.Goals as goal

pub run-requires-clause-ready : goal.run-requires-clause-ready
run-requires-clause-ready c = (list_by c.args.list.now.links, all, ready c.requires c.nodes-n.ensures)

pub spread-requires : goal.spread-requires
spread-requires c =
    run_turnable c.requires c.nodes-n.ensures (c.run.ensures (list_by c.args.list.now.links) all (ready c.requires c.nodes-n.ensures))

pub returns : goal.returns
returns c =
    run_scannable c.requires c.nodes-n.ensures (c.run.ensures (list_by c.args.list.now.links) all (ready c.requires c.nodes-n.ensures))
    c.spread.ensures
