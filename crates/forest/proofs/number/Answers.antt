-- `number` meets its contract: the table of the list is filled, turned along its order, and the rows are numbered on it.
use Rattle.std.proofs.Common.{ℕ}
use Rattle.std.proofs.lemmas.List.{get_or-replicate}
use Rattle.lists.specs.Given.{given_by}
use Rattle.table.proofs.Begin.{passed_rows}
use Rattle.forest.proofs.Along.{passed_tabled}
use Rattle.forest.proofs.number.Goals as goal

pub fill-requires-clause-rows : goal.fill-requires-clause-rows
fill-requires-clause-rows c = passed_rows (given_by c.args.list.now.links) c.args.list.now.words c.args.list.now.passed

pub fill-requires-clause-zeros : goal.fill-requires-clause-zeros
fill-requires-clause-zeros c = λ i h. get_or-replicate {A = ℕ} 16384 i 0 0 h

pub turn-requires : goal.turn-requires
turn-requires c =
    passed_tabled (given_by c.args.list.now.links) c.args.list.now.passed c.args.list.now.words (c.fill.ensures c.args.list.now.links.n)
