-- `division` meets its contract: the first round stands where no division is below it, and else the rounds find the answer. The list passed its
-- checks, so `fill` may fill the zeros, and every node is its own group.
use Rattle.std.proofs.Common.{false, ◌-◌, refl, sym, arith}
use Rattle.std.proofs.lemmas.List.{get_or-replicate}
use Rattle.laws.specs.Accept.{fine_accepted}
use Rattle.lists.specs.Given.{given_by, list_by}
use Rattle.table.proofs.Begin.{passed_rows}
use Rattle.table.proofs.Storing.{ran_along}
use Rattle.least.proofs.Grouping.{grouped_first}
use Rattle.least.proofs.First.{first_notes}
use Rattle.least.proofs.Outcome.{node_bounds}
use Rattle.least.proofs.division.Goals as goal

pub prove-unreachable-requires : goal.prove-unreachable-requires
prove-unreachable-requires c = let bounds = node_bounds (given_by c.args.list.now.links) c.args.list.now.passed in omega arith

pub floor-low-requires-clause-along : goal.floor-low-requires-clause-along
floor-low-requires-clause-along c =
    ran_along (node_bounds (given_by c.args.list.now.links) c.args.list.now.passed).1 refl refl c.order_of.ensures

pub returns-then-value-low : goal.returns-then-value-low
returns-then-value-low c =
    let g = given_by c.args.list.now.links in
    let size = c.nodes-n.ensures in
    let p = c.args.list.now.passed in
    let acc = fine_accepted g false c.args.list.now.words p in
    let along = ran_along (node_bounds g p).1 refl refl c.order_of.ensures in
    rw size
    (first_notes (list_by c.args.list.now.links) acc (c.args.list.now.links.n - 2) (omega arith) along c.number.new.label c.floor-low.result
    c.number.auto.label c.number.ensures (rw size at c.side-side.ensures) c.floor-low.ensures (rw size at c.if-value-low.true))

pub fill-requires-clause-rows : goal.fill-requires-clause-rows
fill-requires-clause-rows c = passed_rows (given_by c.args.list.now.links) c.args.list.now.words c.args.list.now.passed

pub fill-requires-clause-zeros : goal.fill-requires-clause-zeros
fill-requires-clause-zeros c = λ i h. get_or-replicate 16384 i 0 0 h

pub rounds-requires-clause-grouped : goal.rounds-requires-clause-grouped
rounds-requires-clause-grouped c =
    let acc = fine_accepted (given_by c.args.list.now.links) false c.args.list.now.words c.args.list.now.passed in (
      list_by c.args.list.now.links,
      grouped_first acc (sym c.nodes-n.ensures) (c.fill.ensures c.args.list.now.links.n) c.number.auto.label c.number.ensures,
    )

pub returns : goal.returns
returns c =
    let size = c.nodes-n.ensures in
    let acc = fine_accepted (given_by c.args.list.now.links) false c.args.list.now.words c.args.list.now.passed in
    let first = grouped_first acc (sym size) (c.fill.ensures c.args.list.now.links.n) c.number.auto.label c.number.ensures in
    rw size at (c.rounds.ensures (list_by c.args.list.now.links) first c.floor-low.ensures)
